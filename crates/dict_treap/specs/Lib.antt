pub mod Lists
pub mod Treap
