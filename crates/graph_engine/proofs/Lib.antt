pub mod ExplainLemmas
pub mod PathLemmas
