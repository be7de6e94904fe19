use Rattle.std.proofs.Common.{◌≡◌, ◌<◌, ◌∙◌, ℕ, List, Some, arith, ap, sym, subst, is_some, length, false}
use Rattle.std.specs.Prelude.{if◌then◌else◌, ◌==◌}
use Rattle.chunked.specs.Maps.{SortedMap, value_at}
use Rattle.installed_filters.specs.Counts.{Reaching, reach_at}
use Rattle.installed_filters.proofs.Indexed.{added_new, live_key, not_some}
use Rattle.installed_filters.proofs.reaches.Reaches.add.Goals as goal

pub insert_reserved-requires-clause-absent : goal.insert_reserved-requires-clause-absent
insert_reserved-requires-clause-absent c =
    let ends = c.self.inside.ends.items in
    let order = c.self.inside.order.entries in
    let gone : is_some (reach_at ends c.args.number c.args.endpoint) ≡ false =
    ap (λ (es : List (SortedMap ℕ)). is_some (reach_at es c.args.number c.args.endpoint)) (sym c.deref.ensures.value) ∙ sym c.if-not-known.ensures in
    ap (value_at order) c.key_of.ensures ∙ not_some _ (live_key ends order c.args.number c.args.endpoint c.self.invariant (subst (λ (es : List (SortedMap ℕ)). c.args.number < length es) (sym (ap (λ (r : Reaching). r.ends) c.self.view_is)) c.requires.inside) ∙ gone)

pub invariant_of-self : goal.invariant_of-self
invariant_of-self c =
    let ends = c.self.inside.ends.items in
    let order = c.self.inside.order.entries in
    let small : c.args.endpoint < 65536 = omega arith in
    added_new ends c.add_at.new.ends.items order c.args.number c.args.endpoint c.self.invariant (subst (λ (es : List (SortedMap ℕ)). c.args.number < length es) (sym (ap (λ (r : Reaching). r.ends) c.self.view_is)) c.requires.inside) small c.add_at.ensures.numbers c.insert_reserved.new.self.entries tt c.add_at.ensures.counts
    (subst (λ (k : ℕ). (key : ℕ) → value_at c.insert_reserved.new.self.entries key ≡ (if key == k then Some tt else value_at order key)) c.key_of.ensures c.insert_reserved.ensures.values)
