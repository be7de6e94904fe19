pub mod NumberLemmas
pub mod PrintedLemmas
pub mod LinesLemmas
