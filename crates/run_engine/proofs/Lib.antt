pub mod Works
pub mod Runs
pub mod Printed
