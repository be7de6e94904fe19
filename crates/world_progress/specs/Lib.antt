pub mod Progress
pub mod Remaining
