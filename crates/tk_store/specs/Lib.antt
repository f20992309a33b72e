pub mod Store
pub mod OneRecord
pub mod Memory
pub mod MemoryLaws
pub mod Hashed
pub mod PairsLeft
