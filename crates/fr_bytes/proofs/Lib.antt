pub mod Formats
pub mod HistoryLaws
pub mod Limits
pub mod Lists
pub mod Parts
