pub mod Numbers
pub mod Arguments
pub mod Script
pub mod Woven
pub mod Output
pub mod Written
pub mod Told
pub mod Facts
