pub mod Numbers
pub mod Keys
pub mod Clients
pub mod Begins
pub mod Parties
