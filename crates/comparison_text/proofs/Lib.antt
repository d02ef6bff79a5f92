pub mod Counts
pub mod Lines
pub mod Long
