pub mod NumberLemmas
pub mod AddressLemmas
pub mod ScanLemmas
pub mod TokenLemmas
pub mod UniqueLemmas
