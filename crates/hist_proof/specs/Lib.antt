pub mod Code
pub mod Pruned
pub mod Shown
pub mod Spelling
pub mod Digested
pub mod View
