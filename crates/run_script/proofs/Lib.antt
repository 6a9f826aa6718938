pub mod Fetching
pub mod Halls
pub mod Numbers
pub mod Scripts
pub mod Opening
pub mod Together
pub mod Ending
pub mod Whole
