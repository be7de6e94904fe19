pub mod Places
pub mod DddLemmas
pub mod DddLaws
pub mod DecimalTotal
pub mod DddTextLemmas
pub mod PrintsLemmas
pub mod DigitLemmas
pub mod PieceLemmas
