pub mod Judging
pub mod LevelSteps
pub mod Powers
pub mod Spelled
pub mod TextSteps
pub mod Walks
pub mod Wordless
