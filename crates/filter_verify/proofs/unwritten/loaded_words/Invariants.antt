use Rattle.std.specs.Prelude.{ℕ, ◌<◌}
use Rattle.filter_verify.specs.Paths.{LoadsWord}
use Rattle.filter_verify.specs.Words.{HasWord}
use Rattle.filter_verify.proofs.unwritten.loaded_words.Given as goal

abbrev pub invariant-places : goal.invariant-places
invariant-places g l = (pc word : ℕ) → pc < l.pc → LoadsWord (g.C.Code.insns l.code) pc word → HasWord l.words word
