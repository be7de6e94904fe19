pub mod KnownBytesLemmas
pub mod DeviceLemmas
pub mod InputLemmas
