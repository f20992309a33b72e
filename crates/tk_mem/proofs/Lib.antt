pub mod Sizes
pub mod Undoing
pub mod Standing
pub mod Filing
pub mod Openings
pub mod Written
pub mod Readings
pub mod Stored
