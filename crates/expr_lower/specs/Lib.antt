pub mod Spines
pub mod Walks
pub mod Operands
