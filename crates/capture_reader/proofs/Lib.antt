pub mod RecordLemmas
pub mod BlockLemmas
pub mod FeedLemmas
pub mod LawLemmas
pub mod SharingLemmas
