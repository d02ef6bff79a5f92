pub mod Operations
pub mod Positions
pub mod Queued
pub mod RingAnswers
