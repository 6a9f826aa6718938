pub mod Least
pub mod LeastLaws
pub mod Marks
pub mod Steps
pub mod Wants
pub mod LeastLists
pub mod Walks
