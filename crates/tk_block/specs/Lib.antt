pub mod Blocks
pub mod Grammar
pub mod Laid
pub mod Layout
pub mod Number
pub mod Renumber
pub mod Sizes
pub mod Text
