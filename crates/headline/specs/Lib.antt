pub mod Headline
pub mod Decided
pub mod Judged
pub mod Shown
pub mod Ended
pub mod Served
pub mod Starts
pub mod Waking
