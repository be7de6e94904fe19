pub mod Fronts
pub mod Linking
pub mod Outcomes
pub mod Ranges
