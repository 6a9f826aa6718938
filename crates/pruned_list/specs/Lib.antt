pub mod Code
pub mod Kept
pub mod PrunedList
pub mod Whole
