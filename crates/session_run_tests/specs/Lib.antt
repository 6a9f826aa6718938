pub mod Todo
