pub mod Causes
pub mod Changes
pub mod Reading
pub mod Readings
pub mod Restoration
pub mod Rising
