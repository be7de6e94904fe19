pub mod Backwards
pub mod Items
pub mod Keeping
pub mod Parts
pub mod Places
pub mod Rings
pub mod Turns
pub mod Whole
