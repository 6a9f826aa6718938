pub mod Staying
pub mod Levels
pub mod Prunings
pub mod Spellings
pub mod Steps
pub mod Tags
pub mod Views
pub mod Writings
