pub mod Chunks
pub mod Nodes
