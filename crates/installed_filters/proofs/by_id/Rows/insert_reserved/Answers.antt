use Rattle.std.proofs.Common.{◌≡◌, ◌<◌, ℕ, Some, None, ap, subst, ◌∙◌, arith}
use Rattle.std.specs.Prelude.{◌==◌, if◌then◌else◌}
use Rattle.chunked.specs.Maps.{SortedMap, value_at}
use Rattle.installed_filters.specs.declared.books.Row.{Row}
use Rattle.installed_filters.specs.Under.{ids, is_under, under_key}
use Rattle.installed_filters.proofs.Keys.{no_value}
use Rattle.installed_filters.proofs.Under.{under_at, under_more}
use Rattle.installed_filters.proofs.by_id.Rows.insert_reserved.Goals as goal

pub insert_reserved-requires-2-clause-absent : goal.insert_reserved-requires-2-clause-absent
unfolding ids
insert_reserved-requires-2-clause-absent c =
    let rows = c.self.inside.rows.entries in
    let absent : value_at rows c.args.id ≡ None = ap (λ (m : SortedMap Row). value_at m.entries c.args.id) c.self.view_is ∙ c.requires.absent in
    ap (value_at c.self.inside.under.entries) c.key_of.ensures
    ∙ no_value (value_at c.self.inside.under.entries (under_key c.args.row.cap c.args.id)) (c.self.invariant.each (under_key c.args.row.cap c.args.id) ∙ (under_at rows c.args.row.cap c.args.id c.requires.small ∙ ap (is_under c.args.row.cap) absent))

pub invariant_of-self : goal.invariant_of-self
unfolding ids
invariant_of-self c =
    let rows = c.self.inside.rows.entries in
    let absent : value_at rows c.args.id ≡ None = ap (λ (m : SortedMap Row). value_at m.entries c.args.id) c.self.view_is ∙ c.requires.absent in
    let small : c.args.row.cap < 4294967296 = omega arith in
    under_more rows c.insert_reserved.new.self.entries c.self.inside.under.entries c.insert_reserved-2.new.self.entries c.args.id c.args.row c.self.invariant tt absent c.requires.small small c.insert_reserved.ensures.values
    (subst (λ (k : ℕ). (q : ℕ) → value_at c.insert_reserved-2.new.self.entries q ≡ (if q == k then Some tt else value_at c.self.inside.under.entries q)) c.key_of.ensures c.insert_reserved-2.ensures.values)
