pub mod Commands
pub mod Laws
pub mod OneRequest
pub mod Readings
