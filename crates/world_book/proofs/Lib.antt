pub mod Books
pub mod Chains
pub mod Leaves
pub mod Places
pub mod Records
pub mod Shown
pub mod Spelled
