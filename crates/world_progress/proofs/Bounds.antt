-- The steps of a run are bounded by its requests.
use Rattle.std.proofs.Common.{◌≡◌, ◌+◌, ◌*◌, ◌≤◌, ℕ, zero, suc, Option, None, Some, List, [], ◌∷◌, ◌++◌, length, map, replicate, refl, ap, sym, ◌∙◌, subst, arith, mul-add, mul-zero, append_assoc}
use Rattle.std.proofs.lemmas.List.{append-nil}
use Rattle.filter_table.specs.Limits.{TableLimits}
use Rattle.filter_table.specs.declared.operation.Op.{Op}
use Rattle.world_events.specs.declared.event.Done.{Done}
use Rattle.world_model.specs.Worlds.{World, new_peer, boot, Happens, Runs, Run}
use Rattle.world_model.proofs.Runs.{runs_more}
use Rattle.world_model.specs.Settling.{loads}
use Rattle.world_progress.specs.Remaining.{is_step, is_request, per_request, steps, requests, unbegun_up, waiting_weight, steps_left}
use Rattle.world_progress.proofs.Leaving.{step_of_run}

-- from a world of a run on
pub runs_bounded : (limits : TableLimits) (budget : ℕ) (budgets : List ℕ) (before later : List Done) (w w' : World) → Run limits budget budgets before w → Runs w later w'
    → steps later + steps_left w' ≤ steps_left w + per_request (length budgets) * requests later
runs_bounded limits budget budgets before [] w w' run r = subst (λ (x : World). 0 + steps_left x ≤ steps_left w + per_request (length budgets) * 0) (sym r) (omega arith)
runs_bounded limits budget budgets before (done ∷ later) w w' run r =
    omega (
      arith,
      step_of_run limits budget budgets before w r.0 done run r.1,
      runs_bounded limits budget budgets (before ++ done ∷ []) later r.0 w' (runs_more (boot limits budget budgets) w r.0 before done run r.1) r.2,
      mul-add (per_request (length budgets)) (is_request done.event) (requests later),
    )

-- at first nothing is left
new_loads : (budgets : List ℕ) → loads (map new_peer budgets) ≡ 0
new_loads [] = refl
new_loads (b ∷ budgets) = omega (arith, new_loads budgets)

new_unbegun : (k : ℕ) (budgets : List ℕ) → unbegun_up k (map new_peer budgets) ≡ 0
new_unbegun k [] = refl
new_unbegun k (b ∷ budgets) = omega (arith, new_unbegun k budgets)

new_waiting : (k n : ℕ) → waiting_weight k (replicate n None) ≡ 0
new_waiting k zero = refl
new_waiting k (suc n) = omega (arith, new_waiting k n)

boot_left : (limits : TableLimits) (budget : ℕ) (budgets : List ℕ) → steps_left (boot limits budget budgets) ≡ 0
boot_left limits budget budgets = omega (arith, new_loads budgets, new_unbegun (4 * length (map new_peer budgets) + 2) budgets, new_waiting (4 * length (map new_peer budgets) + 2) (length budgets))

pub run_bounded : (limits : TableLimits) (budget : ℕ) (budgets : List ℕ) (events : List Done) (w : World) → Run limits budget budgets events w
    → steps events + steps_left w ≤ per_request (length budgets) * requests events
run_bounded limits budget budgets events w run =
    omega (arith, boot_left limits budget budgets, runs_bounded limits budget budgets [] events (boot limits budget budgets) w refl run)
