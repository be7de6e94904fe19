pub mod Qualifiers
pub mod Marks
pub mod Masks
pub mod Values
