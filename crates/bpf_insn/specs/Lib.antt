pub mod Texts
pub mod Table
pub mod Program
pub mod Ddd
pub mod Parts
pub mod DddText
pub mod AsmText
pub mod Machine
