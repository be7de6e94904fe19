-- Every version that a core of a run has had is within its budget.
use Rattle.std.proofs.Common.{◌≡◌, ◌<◌, ◌≤◌, ◌⊎◌, inl, inr, ℕ, zero, suc, Some, List, [], ◌∷◌, ◌++◌, length, map, slice_get, refl, ap, sym, ◌∙◌, arith}
use Rattle.std.specs.Prelude.{option_map}
use Rattle.filter_table.specs.Limits.{TableLimits}
use Rattle.filter_table.specs.Tables.{table, instructions}
use Rattle.filter_table.proofs.Tables.{table_front}
use Rattle.world_events.specs.declared.event.Done.{Done}
use Rattle.world_model.specs.Worlds.{Peer, World, boot, new_peer, version_at, Happens, Run}
use Rattle.world_model.specs.Agreement.{Grows}
use Rattle.world_model.proofs.Lists.{get_map}
use Rattle.world_model.proofs.Runs.{run_keeps, runs_more}
use Rattle.world_model.proofs.Known.{run_known}
use Rattle.world_model.proofs.Agreement.{of_core}
use Rattle.world_model.proofs.RunLaws.{run_agrees, run_grows, version_within}
use Rattle.world_histories.proofs.Lists.{less_or_same}
use Rattle.std.proofs.lemmas.Option.{slice_get_within}
use Rattle.filter_table.proofs.Lists.{map-get}
use Rattle.filter_table.proofs.Positions.{get_at}

abbrev pub FitsAll : ℕ → List ℕ → World → Type 0
FitsAll budget budgets w = (core b known v : ℕ) → slice_get (budget ∷ budgets) core ≡ Some b → version_at w core ≡ Some known → v ≤ known → instructions (table w.limits w.log v) ≤ b

version_there : (limits : TableLimits) (budget : ℕ) (budgets : List ℕ) (events : List Done) (w : World) (core b : ℕ) → Run limits budget budgets events w → slice_get (budget ∷ budgets) core ≡ Some b → (v : ℕ) × (version_at w core ≡ Some v)
version_there limits budget budgets events w zero b run at = (w.version, refl)
version_there limits budget budgets events w (suc i) b run at =
    let p = get_at w.peers i (omega (arith, (run_known limits budget budgets events w run).cores, slice_get_within budgets i b at)) in
    (p.0.version, ap (option_map (λ (x : Peer). x.version)) p.1)

fits_more : (limits : TableLimits) (budget : ℕ) (budgets : List ℕ) (events : List Done) (w w' : World) (done : Done) → Run limits budget budgets events w → FitsAll budget budgets w → Happens w done.event w' done.answer → FitsAll budget budgets w'
fits_more limits budget budgets events w w' done run fits h core b known v at_b at le = by_order (less_or_same v known le)
  where
    old : (x : ℕ) × (version_at w core ≡ Some x)
    old = version_there limits budget budgets events w core b run at_b

    grows : Grows w w'
    grows = run_grows limits budget budgets events w w' done.event done.answer run h

    by_order : ((v < known) ⊎ (v ≡ known)) → instructions (table w'.limits w'.log v) ≤ b
    by_order (inl lt) =
        let g = grows.versions core old.0 old.1 in
        let same : g.0 ≡ known = (let x : Some g.0 ≡ Some known = sym g.1 ∙ at in cc) in
        let was : v ≤ old.0 = omega (arith, g.3, same, lt) in
        let within = version_within limits budget budgets w core old.0 (run_agrees limits budget budgets events w run) old.1 in
        let front : v ≤ length w.log = omega (arith, was, within) in
        rw (grows.limits, grows.log.1, table_front w.limits w.log grows.log.0 v front) (fits core b old.0 v at_b old.1 was)
    by_order (inr e) =
        (run_agrees limits budget budgets (events ++ done ∷ []) w' (runs_more (boot limits budget budgets) w w' events done run h)).fits core v b (at ∙ ap (λ (n : ℕ). Some n) (sym e)) at_b

pub fits_all : (limits : TableLimits) (budget : ℕ) (budgets : List ℕ) (events : List Done) (w : World) → Run limits budget budgets events w → FitsAll budget budgets w
fits_all limits budget budgets = run_keeps limits budget budgets (λ events w. FitsAll budget budgets w)
    (λ core b known v at_b at le.
    let none : v ≡ 0 = omega (arith, first core known at, le) in
    rw none ((run_agrees limits budget budgets [] (boot limits budget budgets) refl).fits core 0 b (start core b at_b) at_b))
    (λ events w w' done run fits h. fits_more limits budget budgets events w w' done run fits h)
  where
    first : (core known : ℕ) → version_at (boot limits budget budgets) core ≡ Some known → known ≡ 0
    first zero known at = cc
    first (suc i) known at =
        let p = of_core (λ (x : Peer). x.version) (map new_peer budgets) i known (slice_get (map new_peer budgets) i) refl at in
        let r = get_map new_peer budgets i p.0 p.1 in
        sym p.2 ∙ ap (λ (x : Peer). x.version) r.2

    start : (core b : ℕ) → slice_get (budget ∷ budgets) core ≡ Some b → version_at (boot limits budget budgets) core ≡ Some 0
    start zero b at = refl
    start (suc i) b at = ap (option_map (λ (x : Peer). x.version)) (map-get new_peer budgets i b at)
