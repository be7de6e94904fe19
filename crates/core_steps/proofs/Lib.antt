pub mod Codable
pub mod Sending
pub mod Taking
pub mod Tables
