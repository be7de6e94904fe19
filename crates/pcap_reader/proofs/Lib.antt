pub mod Fronts
pub mod FeedLemmas
pub mod LawLemmas
pub mod AnswerLemmas
pub mod ReadingLemmas
pub mod SharingLemmas
