pub mod Seen
pub mod Claim
pub mod Room
pub mod Modes
pub mod Opcodes
pub mod Timestamps
