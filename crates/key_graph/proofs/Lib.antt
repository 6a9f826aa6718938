pub mod Histories
pub mod Opening
pub mod Nodes
pub mod Law
pub mod Runs
pub mod Books
pub mod Streams
