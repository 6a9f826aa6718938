pub mod Changes
pub mod Heard
pub mod Judged
pub mod Lists
pub mod News
pub mod Places
pub mod Shown
