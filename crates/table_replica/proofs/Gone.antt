-- Capabilities that go, and the filters under them.
use Rattle.std.proofs.Common.{◌≡◌, ◌==◌, ◌||◌, ◌&&◌, ℕ, Bool, true, false, cond, Option, Some, None, is_none, is_some, List, [], ◌∷◌, map, filter, not, Contains, refl, ap, sym, ◌∙◌, subst}
use Rattle.chunked.specs.Maps.{value_at}
use Rattle.endpoint_caps.specs.declared.Cap.{Cap}
use Rattle.endpoint_caps.specs.Capabilities.{CapTable, cap_at, is_under, revoked, dropped}
use Rattle.endpoint_caps.proofs.Keeping.{at-filter, same-filter}
use Rattle.filter_table.specs.Listed.{ListedFilter}
use Rattle.filter_table.proofs.Lists.{was_mapped}
use Rattle.installed_filters.specs.Installed.{Installed, AreHeldBy, lapsed_under}
use Rattle.installed_filters.specs.Lent.{listed}
use Rattle.installed_filters.proofs.Held.{held_by_left}
use Rattle.table_replica.specs.Boxed.{IsLapse}
use Rattle.table_replica.specs.Changing.{StandUnder}
use Rattle.table_replica.specs.Remaining.{remaining}

module _ {V : Type 0} (table : CapTable) (gone : List (ℕ × V)) where
  -- whether one is held still
  pub at_remaining : (id : ℕ) → cap_at (remaining table gone).held id ≡ cond (not (is_some (value_at gone id))) (cap_at table.held id) None
  at_remaining id = at-filter (λ i. not (is_some (value_at gone i))) table.held id

  -- what remains where a revocation takes these, or a drop
  pub remain_revoked : (cap : ℕ) → ((id : ℕ) → is_some (value_at gone id) ≡ is_under table.held cap id) → remaining table gone ≡ revoked table cap
  remain_revoked cap same = ap (λ (held : List Cap). record { held = held; next = table.next }) (same-filter _ _ (λ c. ap not (same c.id)) table.held)

  pub remain_dropped : (cap : ℕ) → ((id : ℕ) → is_some (value_at gone id) ≡ ((id == cap) || is_under table.held cap id)) → remaining table gone ≡ dropped table cap
  remain_dropped cap same = ap (λ (held : List Cap). record { held = held; next = table.next }) (same-filter _ _ (λ c. ap not (same c.id)) table.held)

  same_listed : (now : List Installed) → listed (map (lapsed_under gone) now) ≡ listed now
  same_listed [] = refl
  same_listed (f ∷ now) = ap (λ (fs : List ListedFilter). f.filter ∷ fs) (same_listed now)

  pub lapse_stands : (caps : CapTable) (now : List Installed) (next : Option (List Installed)) → remaining table gone ≡ caps → AreHeldBy table.held now → IsLapse gone now next → StandUnder caps.held now next
  lapse_stands caps now None same held is = is
  lapse_stands caps now (Some next) same held is = (
    ap listed is ∙ same_listed now,
    subst (λ (t : CapTable). AreHeldBy t.held next) same (subst (AreHeldBy (remaining table gone).held) (sym is) (held_by_left gone table.held (remaining table gone).held now at_remaining held)),
  )
