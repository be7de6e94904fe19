use Rattle.std.proofs.Common.{◌≡◌, ℕ, Some, length, slice_get}
use Rattle.filter_group.specs.declared.equality.Equality.{Equality}
use Rattle.filter_group.specs.Equalities.{IsEqualityOf}
use Rattle.filter_group.proofs.equality.equalities_of.Given as goal

abbrev pub invariant-loop-pc : goal.invariant-loop-pc
invariant-loop-pc l = record {
  many : length l.found.items ≡ l.pc;
  each : (p : ℕ) (equality : Equality) → slice_get l.found.items p ≡ Some equality → IsEqualityOf l.code l.marks p equality;
}
