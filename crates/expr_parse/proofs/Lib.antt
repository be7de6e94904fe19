pub mod BracketLemmas
pub mod ChainLemmas
pub mod LevelLemmas
pub mod ColumnLemmas
pub mod WholeLemmas
