pub mod Reading
pub mod Gather
