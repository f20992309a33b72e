pub mod AnyStore
pub mod AnyLaws
