pub mod Keeping
pub mod Sieving
