pub mod Record
pub mod Text
pub mod Session
pub mod Gather
pub mod Log
