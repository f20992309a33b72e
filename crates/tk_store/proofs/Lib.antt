pub mod Whole
pub mod Fits
pub mod Acts
pub mod Mem
pub mod Bounds
pub mod Joined
pub mod Hashing
pub mod Filling
