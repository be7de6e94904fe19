pub mod Listed
pub mod Limits
pub mod Tables
pub mod Loading
pub mod Staging
pub mod Soundness
pub mod Raising
