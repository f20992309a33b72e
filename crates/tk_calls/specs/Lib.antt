pub mod Planned
pub mod Iterators
pub mod Calls
pub mod Replies
pub mod ReplyLaws
