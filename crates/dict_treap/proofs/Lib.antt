pub mod Treaps
pub mod Versions
