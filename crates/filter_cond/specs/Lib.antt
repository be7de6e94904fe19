pub mod Numbers
pub mod Means
