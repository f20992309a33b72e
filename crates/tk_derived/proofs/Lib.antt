pub mod Replied
pub mod GatedCalls
pub mod RowLaws
