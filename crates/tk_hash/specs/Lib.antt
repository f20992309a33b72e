pub mod Chain
pub mod Fair
pub mod Hash
pub mod HashLaws
pub mod Plan
pub mod Relations
pub mod Seek
pub mod Shelf
