use Rattle.std.specs.Prelude.{ℕ, ◌<◌}
use Rattle.filter_verify.specs.Paths.{LoadsWord}
use Rattle.filter_verify.proofs.dataflow.loads_words.Given as goal

abbrev pub invariant-places : goal.invariant-places
invariant-places l = (pc word : ℕ) → pc < l.pc → LoadsWord l.code pc word → ⊥
