pub mod Devices
pub mod Reading
pub mod Showing
