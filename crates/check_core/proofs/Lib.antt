pub mod Late
pub mod ListReading
pub mod PositionRows
pub mod Unfitting
