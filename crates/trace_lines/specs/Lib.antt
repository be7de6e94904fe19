pub mod Following
pub mod Lines
pub mod Links
pub mod Traces
pub mod Views
pub mod Words
