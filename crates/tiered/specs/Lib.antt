pub mod Blocks
pub mod Forms
pub mod Lists
