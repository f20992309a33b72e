pub mod HeaderLast
pub mod Opening
pub mod SkipText
pub mod Walking
