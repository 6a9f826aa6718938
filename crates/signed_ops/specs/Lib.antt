pub mod Signed
pub mod Honest
