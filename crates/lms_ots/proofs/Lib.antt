pub mod ChainLemmas
pub mod Ranges
pub mod Rows
pub mod Elements
pub mod Sums
pub mod Dominance
pub mod Signed
