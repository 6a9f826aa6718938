pub mod Landing
pub mod Completing
