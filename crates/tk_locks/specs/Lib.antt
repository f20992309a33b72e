pub mod Homes
pub mod View
pub mod Rule
pub mod Steps
pub mod Calls
pub mod Made
pub mod Tells
