pub mod Sights
pub mod Seating
pub mod Moves
pub mod HonestReplies
pub mod Answers
pub mod Meetings
