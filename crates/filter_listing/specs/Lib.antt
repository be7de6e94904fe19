pub mod Image
pub mod Number
pub mod Initializer
pub mod Lines
pub mod Steps
