pub mod Carrying
pub mod Channels
pub mod LoggedCore0s
pub mod Keeping
pub mod Sending
pub mod Shown
