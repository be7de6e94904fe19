pub mod Chunking
pub mod Chunks
pub mod Entries
pub mod Maps
