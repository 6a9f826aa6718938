pub mod AccessList
pub mod History
pub mod Treap
