pub mod Together
pub mod Lists
pub mod Lines
