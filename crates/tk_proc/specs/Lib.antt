pub mod Replies
pub mod Increments
pub mod Members
pub mod ReplyLaws
pub mod Runs
pub mod RunLaws
