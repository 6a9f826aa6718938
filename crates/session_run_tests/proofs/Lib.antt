pub mod Growing
pub mod Opening
