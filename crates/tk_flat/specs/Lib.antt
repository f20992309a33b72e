pub mod Errors
pub mod Escapes
pub mod Flat
pub mod Tsv
