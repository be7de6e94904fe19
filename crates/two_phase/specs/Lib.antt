pub mod Participants
pub mod Coordinators
