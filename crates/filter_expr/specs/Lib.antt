pub mod Selects
pub mod Messages
