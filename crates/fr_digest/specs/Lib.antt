pub mod Collision
pub mod Digest
