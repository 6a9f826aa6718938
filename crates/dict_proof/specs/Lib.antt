pub mod Ends
pub mod Keeping
pub mod Spelling
pub mod View
