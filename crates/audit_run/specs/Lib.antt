pub mod Answer
pub mod Compared
pub mod Ends
pub mod Fronts
pub mod Line
pub mod Table
pub mod Unsigned
