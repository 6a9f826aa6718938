pub mod HonestNews
pub mod HonestReply
