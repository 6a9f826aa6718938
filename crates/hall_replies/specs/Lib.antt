pub mod Kept
pub mod KeyOps
pub mod Shown
pub mod Knowing
