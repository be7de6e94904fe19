use Rattle.std.proofs.Common.{◌≡◌, ap, refl, subst, sym, ◌∙◌, true}
use Rattle.std.specs.Option.{IsSome}
use Rattle.chunked.specs.Maps.{SortedMap, value_at}
use Rattle.installed_filters.specs.declared.books.Row.{Row}
use Rattle.installed_filters.specs.Under.{is_under}
use Rattle.installed_filters.proofs.Under.{there_under, under_set}
use Rattle.installed_filters.proofs.by_id.Rows.set.Goals as goal

pub set-requires : goal.set-requires
set-requires c =
    let old = there_under c.args.row.cap (value_at c.self.inside.rows.entries c.args.id) (ap (λ (m : SortedMap Row). is_under c.args.row.cap (value_at m.entries c.args.id)) c.self.view_is ∙ c.requires) in
    subst IsSome (sym old.1) refl

pub invariant_of-self : goal.invariant_of-self
invariant_of-self c =
    let rows = c.self.inside.rows.entries in
    let was : is_under c.args.row.cap (value_at rows c.args.id) ≡ true = ap (λ (m : SortedMap Row). is_under c.args.row.cap (value_at m.entries c.args.id)) c.self.view_is ∙ c.requires in
    under_set rows c.set.new.self.entries c.self.inside.under.entries c.self.inside.under.entries c.args.id c.args.row c.self.invariant was c.set.ensures.values
