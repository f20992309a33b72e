pub mod Finish
pub mod Statuses
