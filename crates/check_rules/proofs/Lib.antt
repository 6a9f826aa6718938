pub mod Acceptances
pub mod Positions
pub mod Present
pub mod Takings
pub mod Tests
