pub mod Ends
pub mod Digests
pub mod Complete
