pub mod Message
pub mod Reply
pub mod Rule
pub mod RuleAnswers
pub mod Prefix
