pub mod Places
pub mod Starting
pub mod Counting
pub mod Tallying
pub mod Waiting
pub mod Awaiting
