pub mod Captures
pub mod Rooms
pub mod Refusals
pub mod Readings
pub mod Assemblies
pub mod Compilings
