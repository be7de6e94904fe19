use Rattle.std.proofs.Common.{◌≡◌, ◌<◌, ◌∙◌, ℕ, List, None, arith, ap, sym, subst, is_some, length, true, false}
use Rattle.std.specs.Prelude.{if◌then◌else◌, ◌==◌}
use Rattle.chunked.specs.Maps.{SortedMap, value_at}
use Rattle.installed_filters.specs.Counts.{Reaching, reach_at}
use Rattle.installed_filters.proofs.Indexed.{taken_last, taken_one}
use Rattle.installed_filters.proofs.reaches.Reaches.take.Goals as goal

pub invariant_of-self : goal.invariant_of-self
invariant_of-self c =
    let ends = c.self.inside.ends.items in
    let order = c.self.inside.order.entries in
    let small : c.args.endpoint < 65536 = omega arith in
    let gone : is_some (reach_at c.take_at.new.ends.items c.args.number c.args.endpoint) ≡ false =
    ap (λ (es : List (SortedMap ℕ)). is_some (reach_at es c.args.number c.args.endpoint)) (sym c.deref.ensures.value) ∙ sym c.if-not-has_at.ensures in
    taken_last ends c.take_at.new.ends.items order c.args.number c.args.endpoint c.self.invariant (subst (λ (es : List (SortedMap ℕ)). c.args.number < length es) (sym (ap (λ (r : Reaching). r.ends) c.self.view_is)) c.requires) small c.take_at.ensures.numbers c.remove.new.self.entries gone c.take_at.ensures.counts
    (subst (λ (k : ℕ). (key : ℕ) → value_at c.remove.new.self.entries key ≡ (if key == k then None else value_at order key)) c.key_of.ensures c.remove.ensures.values)

pub invariant_of-self-else-not-has_at : goal.invariant_of-self-else-not-has_at
invariant_of-self-else-not-has_at c =
    let ends = c.self.inside.ends.items in
    let order = c.self.inside.order.entries in
    let small : c.args.endpoint < 65536 = omega arith in
    let there : is_some (reach_at c.take_at.new.ends.items c.args.number c.args.endpoint) ≡ true =
    ap (λ (es : List (SortedMap ℕ)). is_some (reach_at es c.args.number c.args.endpoint)) (sym c.deref.ensures.value) ∙ sym c.if-not-has_at.ensures in
    taken_one ends c.take_at.new.ends.items order c.args.number c.args.endpoint c.self.invariant
    (subst (λ (es : List (SortedMap ℕ)). c.args.number < length es) (sym (ap (λ (r : Reaching). r.ends) c.self.view_is)) c.requires) small c.take_at.ensures.numbers there c.take_at.ensures.counts
