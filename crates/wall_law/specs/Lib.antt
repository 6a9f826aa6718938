pub mod Law
pub mod Lawful
pub mod Position
pub mod Rows
pub mod State
