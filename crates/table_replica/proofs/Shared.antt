-- Items of lists by their places, and the filters whose capability is held.
use Rattle.std.proofs.Common.{◌≡◌, Bool, true, false, not, is_none, List, [], ◌∷◌, filter, map, Contains, refl, ap, sym, ◌∙◌}
use Rattle.endpoint_caps.specs.declared.Cap.{Cap}
use Rattle.endpoint_caps.specs.Capabilities.{cap_at}
use Rattle.filter_table.specs.Listed.{ListedFilter}
use Rattle.filter_table.proofs.Lists.{in_head, in_tail}
use Rattle.installed_filters.specs.Installed.{Installed, AreHeldBy}
use Rattle.installed_filters.specs.Lent.{listed, held_listed}
use Rattle.table_replica.specs.Lent.{held_filters}
pub use Rattle.filter_table.proofs.Positions.{get_front, last, split, get_at}

pub same_held : (caps : List Cap) (now : List Installed) → AreHeldBy caps now → held_listed now ≡ held_filters caps (listed now)
same_held caps [] held = refl
same_held caps (f ∷ now) held = by_test f.held refl (same_held caps now (λ g at. held g (in_tail f now g at)))
  where
    own : not (is_none (cap_at caps f.filter.cap)) ≡ f.held
    own = ap not (held f (in_head f now)) ∙ twice f.held
      where
        twice : (b : Bool) → not (not b) ≡ b
        twice true = refl
        twice false = refl

    by_test : (b : Bool) → f.held ≡ b → held_listed now ≡ held_filters caps (listed now) → held_listed (f ∷ now) ≡ held_filters caps (listed (f ∷ now))
    by_test true e rest = rw (e, own ∙ e) (ap (λ (fs : List ListedFilter). f.filter ∷ fs) rest)
    by_test false e rest = rw (e, own ∙ e) rest
