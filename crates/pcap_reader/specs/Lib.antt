pub mod Savefile
pub mod Answers
pub mod Held
pub mod Growth
pub mod Sharing
