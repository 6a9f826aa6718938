pub mod Slots
pub mod KeyTree
pub mod Reach
pub mod KeyBook
pub mod NodeKeys
pub mod Held
pub mod Learning
pub mod Streams
