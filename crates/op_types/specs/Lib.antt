pub mod Roles
pub mod Kinds
pub mod Spelling
pub mod Reading
pub mod Formats
pub mod Written
