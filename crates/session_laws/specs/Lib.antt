pub mod Doing
pub mod Halves
pub mod Lanes
pub mod Runs
pub mod Histories
pub mod Readiness
