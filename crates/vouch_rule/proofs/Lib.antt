mod Counts
mod Points
pub mod Outsiders
