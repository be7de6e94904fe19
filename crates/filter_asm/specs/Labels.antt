-- What contracts see of the labels. No public clause cites these.
use Rattle.std.specs.Prelude.{ℕ, List, Option}
use Rattle.std.specs.Ordering.{nat_cmp}
use Rattle.std.specs.Cmp.Lexicographic.{slice_cmp}
use Rattle.std.specs.BTreeMap.{get_by}
use Rattle.filter_asm.specs.declared.labels.Labels.{Labels}

-- the place of a label
abbrev pub place_in : Labels → List ℕ → Option ℕ
place_in labels name = get_by (λ k. slice_cmp nat_cmp name k.now) labels.places
