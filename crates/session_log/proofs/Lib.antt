pub mod Gather
pub mod Record
pub mod Whole
pub mod Log
pub mod Examples
