pub mod Pending
pub mod Ways
pub mod Keeping
pub mod Simulations
pub mod Settling
pub mod Writing
pub mod Memory
pub mod Showing
