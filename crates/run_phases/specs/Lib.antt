pub mod Members
pub mod Tasks
pub mod Phases
