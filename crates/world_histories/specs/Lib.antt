pub mod Histories
pub mod Merging
pub mod Agreement
pub mod Answers
pub mod Decisions
