pub mod Laying
mod Linked
mod Found
pub mod Values
pub mod Words
pub mod Opening
pub mod Telling
pub mod Counting
pub mod Leading
pub mod InTurn
pub mod Rooms
pub mod Handles
