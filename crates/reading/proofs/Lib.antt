pub mod Gather
pub mod Whole
pub mod Reading
