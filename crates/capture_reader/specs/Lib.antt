pub mod Faults
pub mod Entries
pub mod Captures
pub mod Steps
pub mod Recording
pub mod Holding
pub mod Sharing
