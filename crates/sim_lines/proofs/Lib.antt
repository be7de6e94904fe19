pub mod Counted
pub mod Texts
