pub mod Printing
pub mod Feeding
pub mod Calls
pub mod Turns
