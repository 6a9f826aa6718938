mod Joining
pub mod Spellings
