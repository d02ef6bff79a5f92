pub mod Alike
pub mod Copied
pub mod Outcome
pub mod Receivers
pub mod Turns
pub mod Ending
