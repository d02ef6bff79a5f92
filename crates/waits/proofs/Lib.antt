pub mod Matches
pub mod Taken
