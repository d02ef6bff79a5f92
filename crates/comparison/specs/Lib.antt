pub mod Compare
pub mod Comparing
pub mod Text
