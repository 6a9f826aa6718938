pub mod PlainWall
pub mod Slips
pub mod Calls
pub mod Honest
pub mod Standing
pub mod Snapshots
