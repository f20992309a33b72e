pub mod Rows
pub mod Derived
pub mod Answering
