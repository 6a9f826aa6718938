pub mod Counting
pub mod MemoryLemmas
pub mod Wires
