pub mod Chunking
pub mod Keeping
pub mod Nodes
pub mod Places
