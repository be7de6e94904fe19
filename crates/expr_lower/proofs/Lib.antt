pub mod Spining
pub mod Walking
pub mod Comparing
