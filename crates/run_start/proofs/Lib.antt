pub mod Listing
pub mod Passing
pub mod Rows
pub mod Chosen
pub mod Opening
pub mod Seeds
pub mod Beginning
