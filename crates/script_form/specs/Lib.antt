pub mod Refused
pub mod Status
pub mod Report
pub mod Summary
pub mod Generated
