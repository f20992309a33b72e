pub mod Facts
pub mod Homes
pub mod Keeps
pub mod Views
pub mod Whole
