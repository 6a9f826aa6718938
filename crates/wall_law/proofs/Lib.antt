pub mod Extensions
pub mod Histories
pub mod Owners
pub mod Positions
pub mod Rows
