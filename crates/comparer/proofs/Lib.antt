pub mod Agreeing
pub mod Counting
pub mod Sides
pub mod Feeding
