pub mod Concluded
pub mod Copied
