pub mod Explaining
pub mod Graph
pub mod Paths
pub mod Showing
