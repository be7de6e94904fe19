pub mod Listings
pub mod Compiling
pub mod Trees
