pub mod Digits
pub mod Path
pub mod Ports
pub mod RouteAnswers
pub mod Tree
pub mod WellFormed
