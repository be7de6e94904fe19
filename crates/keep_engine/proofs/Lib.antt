pub mod ChoiceLemmas
pub mod RecordLemmas
pub mod RecordSieveLemmas
pub mod BlockSieveLemmas
pub mod SieveLemmas
pub mod CopyLemmas
