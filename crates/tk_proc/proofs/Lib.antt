pub mod LegalRuns
pub mod Answering
pub mod ReplyLaws
