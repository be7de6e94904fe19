-- The tables of a log whose entries were allowed are sound.
use Rattle.std.proofs.Common.{◌≡◌, ◌≤◌, ◌⊎◌, inl, inr, ℕ, zero, suc, None, Some, List, [], ◌∷◌, length, slice_get, take, refl, ap, sym, subst, arith}
use Rattle.std.proofs.Math.Nat.{le-suc_iff}
use Rattle.filter_table.specs.Limits.{TableLimits}
use Rattle.filter_table.specs.declared.operation.Op.{Op}
use Rattle.filter_table.specs.Tables.{TableState, table, after, after_all, empty_table, Allowed}
use Rattle.filter_table.specs.Soundness.{IsSoundTable, IdsGrow}
use Rattle.filter_table.proofs.Soundness.{sound_next, sound_empty, ids_after, ids_stay}
use Rattle.world_events.specs.declared.event.Done.{Done}
use Rattle.world_model.specs.Worlds.{World, Run}
use Rattle.world_model.specs.Agreement.{IsSoundLog}
use Rattle.world_model.proofs.RunLaws.{run_agrees}
use Rattle.filter_table.proofs.Positions.{get_at}

-- the table of a version and of the next
after_next : (s : TableState) (log : List Op) (v : ℕ) (op : Op) → slice_get log v ≡ Some op → after_all s (take (suc v) log) ≡ after (after_all s (take v log)) op
after_next s [] v op at = absurd cc
after_next s (x ∷ log) zero op at = let e : x ≡ op = cc in ap (after s) e
after_next s (x ∷ log) (suc v) op at = after_next (after s x) log v op at

pub table_of_next : (limits : TableLimits) (log : List Op) (v : ℕ) (op : Op) → slice_get log v ≡ Some op → table limits log (suc v) ≡ after (table limits log v) op
unfolding table
table_of_next limits log v op at = after_next (empty_table limits) log v op at

first_sound : (limits : TableLimits) (log : List Op) → IsSoundTable (table limits log 0)
unfolding table
first_sound limits log = sound_empty limits 0 1 1

abbrev AllAllowed : TableLimits → ℕ → List Op → Type 0
AllAllowed limits budget log = (k : ℕ) (op : Op) → slice_get log k ≡ Some op → Allowed (table limits log k) budget op None

sound_at : (limits : TableLimits) (budget : ℕ) (log : List Op) → AllAllowed limits budget log → (v : ℕ) → v ≤ length log → IsSoundTable (table limits log v)
sound_at limits budget log a zero le = first_sound limits log
sound_at limits budget log a (suc v) le =
    let e = get_at log v (omega (arith, le)) in
    subst IsSoundTable (sym (table_of_next limits log v e.0 e.1)) (sound_next (table limits log v) budget e.0 (a v e.0 e.1) (sound_at limits budget log a v (omega (arith, le))))

ids_join : (a b c : TableState) → IdsGrow a b → IdsGrow b c → IdsGrow a c
ids_join a b c g h = record { caps = omega (arith, g.caps, h.caps); filters = omega (arith, g.filters, h.filters) }

ids_at : (limits : TableLimits) (log : List Op) (u v : ℕ) → u ≤ v → v ≤ length log → IdsGrow (table limits log u) (table limits log v)
ids_at limits log zero zero h le = ids_stay (table limits log 0) (table limits log 0) refl
ids_at limits log (suc u) zero h le = absurd (omega (arith, h))
ids_at limits log u (suc v) h le = by_case (λ earlier. ids_at limits log u v earlier (omega (arith, le))) (le-suc_iff.0 h)
  where
    by_case : (u ≤ v → IdsGrow (table limits log u) (table limits log v)) → (u ≤ v) ⊎ (u ≡ suc v) → IdsGrow (table limits log u) (table limits log (suc v))
    by_case before (inl earlier) =
        let e = get_at log v (omega (arith, le)) in
        ids_join (table limits log u) (table limits log v) (table limits log (suc v)) (before earlier)
        (ids_after (table limits log v) (table limits log (suc v)) e.0 (table_of_next limits log v e.0 e.1))
    by_case before (inr same) = ids_stay (table limits log u) (table limits log (suc v)) (ap (table limits log) (sym same))

pub run_sound : (limits : TableLimits) (budget : ℕ) (budgets : List ℕ) (events : List Done) (w : World) → Run limits budget budgets events w → IsSoundLog w.limits w.log
run_sound limits budget budgets events w r = let a = run_agrees limits budget budgets events w r in
    record { sound = sound_at w.limits budget w.log a.allowed; ids = ids_at w.limits w.log }
