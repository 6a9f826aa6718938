pub mod Accepted
pub mod Heard
pub mod Shown
pub mod Takes
pub mod Verdict
