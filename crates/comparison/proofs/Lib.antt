pub mod Compare
pub mod Examples
pub mod Comparing
