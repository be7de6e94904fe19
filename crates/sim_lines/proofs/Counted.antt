-- A table lists no more filters than they have instructions.
use Rattle.std.proofs.Common.{◌≤◌, suc, List, [], ◌∷◌, length, refl, arith}
use Rattle.std.specs.List.{Contains}
use Rattle.std.proofs.lemmas.List.Sums.{sum_by-cons}
use Rattle.filter_table.specs.Listed.{ListedFilter}
use Rattle.filter_table.specs.Soundness.{IsSoundTable}
use Rattle.filter_table.specs.Tables.{TableState, instructions_of}

counted : (filters : List ListedFilter) → ((f : ListedFilter) → Contains filters f → 1 ≤ length f.program) → length filters ≤ instructions_of filters
counted [] each = omega arith
counted (f ∷ filters) each =
    let one : 1 ≤ length f.program = each f (0, omega arith, refl) in
    let others : length filters ≤ instructions_of filters = counted filters (λ g at. each g (suc at.0, omega (arith, at.1), at.2)) in
    omega (arith, sum_by-cons (λ (g : ListedFilter). length g.program) f filters)

pub filters_counted : (s : TableState) → IsSoundTable s → length s.filters ≤ instructions_of s.filters
filters_counted s is = counted s.filters (λ f at. (is.rightful f at).sound.shaped.sized.0)
