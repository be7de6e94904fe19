-- What is written of each core, one after the other.
use Rattle.std.proofs.Common.{◌≡◌, ℕ, ◌+◌, ◌-◌, ◌<◌, List, ◌++◌, append_assoc}
use Rattle.std.specs.List.{flat_map, range_with_len}
use Rattle.trace_lines.proofs.Ranges.{range_next}

pub wrote_next : (f : ℕ → List ℕ) (before after all : List ℕ) (core end : ℕ) → core < end → after ≡ before ++ f core
    → before ++ flat_map f (range_with_len core (end - core)) ≡ all → after ++ flat_map f (range_with_len (core + 1) (end - (core + 1))) ≡ all
wrote_next f before after all core end low is so = rw (is, append_assoc) (rw (range_next core end low) at so)
