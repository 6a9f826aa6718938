pub mod Causes
pub mod Formats
pub mod Messages
pub mod Names
