pub mod Traces
pub mod Reading
