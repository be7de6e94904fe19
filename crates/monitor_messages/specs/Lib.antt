pub mod Coding
pub mod Carrying
pub mod Reading
pub mod Programs
