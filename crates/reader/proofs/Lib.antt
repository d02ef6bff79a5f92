pub mod Codes
pub mod Gathering
pub mod Turns
pub mod Came
