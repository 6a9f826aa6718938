pub mod Counting
pub mod Vouching
