use Rattle.std.proofs.Common.{◌≡◌, ℕ, None, sym, subst}
use Rattle.std.specs.Prelude.{◌==◌, if◌then◌else◌}
use Rattle.chunked.specs.Maps.{value_at}
use Rattle.installed_filters.specs.Under.{ids}
use Rattle.installed_filters.proofs.Under.{under_less}
use Rattle.installed_filters.proofs.by_id.Rows.remove.Goals as goal

pub key_of-requires : goal.key_of-requires
unfolding ids
key_of-requires c = (c.self.invariant.small c.args.id c.in-Some.row (sym c.in-Some.ensures.value)).0

pub invariant_of-self : goal.invariant_of-self
invariant_of-self c =
    under_less c.self.inside.rows.entries c.remove.new.self.entries c.self.inside.under.entries c.remove-in-Some.new.self.entries c.args.id c.in-Some.row c.self.invariant (sym c.in-Some.ensures.value) c.remove.ensures.values
    (subst (λ (k : ℕ). (q : ℕ) → value_at c.remove-in-Some.new.self.entries q ≡ (if q == k then None else value_at c.self.inside.under.entries q)) c.key_of.ensures c.remove-in-Some.ensures.values)
