pub mod Address
pub mod Route
pub mod RouteAnswers
