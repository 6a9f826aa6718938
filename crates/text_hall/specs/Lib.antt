pub mod TextHall
pub mod AnswersTurn
