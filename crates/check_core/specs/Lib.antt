pub mod Finding
pub mod Reads
pub mod View
