pub mod Work
pub mod Showing
pub mod Running
pub mod Failing
