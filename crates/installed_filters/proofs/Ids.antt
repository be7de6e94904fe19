-- The keys of rows stay ids.
use Rattle.std.proofs.Common.{◌≡◌, ◌<◌, inl, inr, ℕ, Bool, true, false, nat_eq, List, [], ◌∷◌, ◌++◌, Contains, Option, map, refl, ap, sym, ◌∙◌, subst, arith}
use Rattle.std.specs.Map.{remove_entry, set_value}
use Rattle.filter_table.proofs.Lists.{in_head, in_tail, in_map, was_mapped, first_or_later}
use Rattle.installed_filters.specs.declared.books.Row.{Row}
use Rattle.installed_filters.specs.declared.slots.Slot.{Slot}
use Rattle.installed_filters.specs.Installed.{Installed, installed, installed_row, lapsed_by}
use Rattle.installed_filters.specs.Planning.{AreIds}

ids_tail : (x : ℕ × Row) (rows : List (ℕ × Row)) → AreIds (x ∷ rows) → AreIds rows
ids_tail x rows ids e at = ids e (in_tail x rows e at)

ids_more : (x : ℕ × Row) (rows : List (ℕ × Row)) → x.0 < 4294967296 → AreIds rows → AreIds (x ∷ rows)
ids_more x rows low ids e at = elim (first_or_later x rows e at) [
  | inl same ↦ (let key = ap (λ (y : ℕ × Row). y.0) same in omega (arith, low, key))
  | inr later ↦ ids e later
]

pub ids_with : (rows rows' : List (ℕ × Row)) (id : ℕ) (row : Row) → AreIds rows → id < 4294967296 → rows' ≡ rows ++ (id, row) ∷ [] → AreIds rows'
ids_with rows rows' id row ids low is = subst AreIds (sym is) (pushed rows ids)
  where
    pushed : (rs : List (ℕ × Row)) → AreIds rs → AreIds (rs ++ (id, row) ∷ [])
    pushed [] known = ids_more (id, row) [] low known
    pushed (x ∷ rs) known = ids_more x (rs ++ (id, row) ∷ []) (known x (in_head x rs)) (pushed rs (ids_tail x rs known))

pub ids_without : (rows rows' : List (ℕ × Row)) (id : ℕ) → AreIds rows → rows' ≡ remove_entry (nat_eq id) rows → AreIds rows'
ids_without rows rows' id ids is = subst AreIds (sym is) (left rows ids)
  where
    left : (rs : List (ℕ × Row)) → AreIds rs → AreIds (remove_entry (nat_eq id) rs)
    left [] known = known
    left (x ∷ rs) known = by_id (nat_eq id x.0) refl (left rs (ids_tail x rs known))
      where
        by_id : (b : Bool) → nat_eq id x.0 ≡ b → AreIds (remove_entry (nat_eq id) rs) → AreIds (remove_entry (nat_eq id) (x ∷ rs))
        by_id true t rest = rw t (ids_tail x rs known)
        by_id false t rest = rw t (ids_more x (remove_entry (nat_eq id) rs) (known x (in_head x rs)) rest)

pub ids_set : (rows rows' : List (ℕ × Row)) (id : ℕ) (row : Row) → AreIds rows → rows' ≡ set_value (nat_eq id) rows row → AreIds rows'
ids_set rows rows' id row ids is = subst AreIds (sym is) (put rows ids)
  where
    put : (rs : List (ℕ × Row)) → AreIds rs → AreIds (set_value (nat_eq id) rs row)
    put [] known = known
    put (x ∷ rs) known = by_id (nat_eq id x.0) refl (put rs (ids_tail x rs known))
      where
        by_id : (b : Bool) → nat_eq id x.0 ≡ b → AreIds (set_value (nat_eq id) rs row) → AreIds (set_value (nat_eq id) (x ∷ rs) row)
        by_id true t rest = rw t (ids_more (x.0, row) rs (known x (in_head x rs)) (ids_tail x rs known))
        by_id false t rest = rw t (ids_more x (set_value (nat_eq id) rs row) (known x (in_head x rs)) rest)

-- filters that lapse keep their ids
pub ids_lapsed : (slots slots' : List (Option Slot)) (rows rows' lapsing : List (ℕ × Row)) → AreIds rows → installed slots' rows' ≡ map (lapsed_by lapsing) (installed slots rows) → AreIds rows'
ids_lapsed slots slots' rows rows' lapsing ids is e at =
    let there = subst (λ (fs : List Installed). Contains fs (installed_row slots' e)) is (in_map (installed_row slots') rows' e at) in
    let was = was_mapped (lapsed_by lapsing) (installed slots rows) (installed_row slots' e) there in
    let row = was_mapped (installed_row slots) rows was.0 was.1 in
    let low = ids row.0 row.1 in
    let key : row.0.0 ≡ e.0 = ap (λ (f : Installed). f.filter.id) row.2 ∙ ap (λ (f : Installed). f.filter.id) was.2 in
    omega (arith, low, key)
