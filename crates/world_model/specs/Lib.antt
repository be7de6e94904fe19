pub mod Cases
pub mod Worlds
pub mod Readings
pub mod Agreement
pub mod Decisions
pub mod Committed
pub mod Refusals
pub mod Settling
