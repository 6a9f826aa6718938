pub mod Zips
pub mod Rounds
pub mod Endings
