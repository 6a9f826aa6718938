pub mod Comparisons
pub mod Ready
pub mod Sound
pub mod Story
pub mod Truth
