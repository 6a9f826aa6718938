pub mod Views
pub mod News
pub mod Parts
pub mod Phases
