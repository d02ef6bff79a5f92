pub mod Arrays
pub mod Outcomes
