pub mod Refusals
pub mod Items
pub mod Lists
pub mod Walls
pub mod Playing
pub mod CallLaws
pub mod Honesty
pub mod Crossing
