pub mod Chain
pub mod Frame
pub mod Lookup
pub mod Seen
