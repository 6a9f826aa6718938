pub mod Strings
pub mod Paths
pub mod Decided
pub mod Levels
pub mod SigningLaw
pub mod Written
pub mod KeyStrings
