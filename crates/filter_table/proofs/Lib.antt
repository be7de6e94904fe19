pub mod Lists
pub mod Tables
pub mod Changes
pub mod Soundness
pub mod Positions
pub mod Raised
