pub mod PathLengths
pub mod Expressions
