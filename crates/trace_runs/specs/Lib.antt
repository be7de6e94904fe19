pub mod Traces
pub mod Repeats
pub mod Printed
