pub mod Written
pub mod Wrong
