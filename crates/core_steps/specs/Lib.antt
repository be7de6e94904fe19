pub mod Core0Steps
pub mod OtherCoreSteps
pub mod Unread
