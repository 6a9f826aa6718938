pub mod LeastHistory
pub mod Wanted
pub mod LeastList
