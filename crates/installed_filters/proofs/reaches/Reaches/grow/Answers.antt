use Rattle.std.proofs.Common.{◌++◌, ◌∷◌, ◌∙◌, [], ap, arith, ℕ}
use Rattle.chunked.specs.Maps.{SortedMap}
use Rattle.installed_filters.specs.Counts.{numbers}
use Rattle.installed_filters.proofs.Indexed.{indexed_grown}
use Rattle.installed_filters.proofs.reaches.Reaches.grow.Goals as goal

pub invariant_of-self-2 : goal.invariant_of-self-2
unfolding numbers
invariant_of-self-2 c =
    let few = c.self.invariant.few in
    let len = c.len.ensures in
    let other = c.if-len-eq-NUMBERS.false in
    indexed_grown c.self.inside.ends.items c.push.new.self.items c.self.inside.order.entries (omega arith)
    (c.in_ok-push.ensures.items ∙ ap (λ (m : SortedMap ℕ). c.self.inside.ends.items ++ m ∷ []) c.new.ensures) c.self.invariant
