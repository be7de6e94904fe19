use Rattle.std.proofs.Common.{◌≡◌, ℕ, Some, length, slice_get}
use Rattle.filter_group.specs.declared.equality.Equality.{Equality}
use Rattle.filter_group.specs.Equalities.{IsMarked}
use Rattle.filter_group.proofs.equality.marked_anew.Given as goal

abbrev pub invariant-loop-pc : goal.invariant-loop-pc
invariant-loop-pc l = record {
  many : length l.found.items ≡ l.pc;
  each : (p : ℕ) (equality : Equality) → slice_get l.found.items p ≡ Some equality → (old : Equality) → slice_get l.equalities p ≡ Some old → IsMarked old l.code l.marks p equality;
}
