pub mod Bytes
pub mod Format
pub mod History
pub mod Parts
pub mod Reading
