pub mod Calls
pub mod Knowing
pub mod Rule
pub mod Plays
pub mod Seats
pub mod SeatLaws
