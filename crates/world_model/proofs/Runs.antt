-- Runs by their last event.
use Rattle.std.proofs.Common.{ℕ, List, [], ◌∷◌, ◌++◌, refl, sym, subst, append_assoc}
use Rattle.std.proofs.lemmas.List.{append-nil}
use Rattle.world_events.specs.declared.event.Done.{Done}
use Rattle.filter_table.specs.Limits.{TableLimits}
use Rattle.world_model.specs.Worlds.{World, boot, Happens, Runs, Run}

pub runs_append : (w mid w' : World) (xs ys : List Done) → Runs w xs mid → Runs mid ys w' → Runs w (xs ++ ys) w'
runs_append w mid w' [] ys a b = rw (← a) b
runs_append w mid w' (x ∷ xs) ys a b = (a.0, a.1, runs_append a.0 mid w' xs ys a.2 b)

-- a run goes on with an event
pub runs_more : (w mid w' : World) (xs : List Done) (done : Done) → Runs w xs mid → Happens mid done.event w' done.answer → Runs w (xs ++ done ∷ []) w'
runs_more w mid w' xs done a h = runs_append w mid w' xs (done ∷ []) a (w', h, refl)

pub runs_split : (w w' : World) (xs ys : List Done) → Runs w (xs ++ ys) w' → (mid : World) × Runs w xs mid × Runs mid ys w'
runs_split w w' [] ys r = (w, refl, r)
runs_split w w' (x ∷ xs) ys r = let s = runs_split r.0 w' xs ys r.2 in (s.0, (r.0, r.1, s.1), s.2)

-- what each event keeps holds of every run
pub run_keeps : (limits : TableLimits) (budget : ℕ) (budgets : List ℕ) (P : List Done → World → Type 0) → P [] (boot limits budget budgets)
    → ((events : List Done) (w w' : World) (done : Done) → Run limits budget budgets events w → P events w → Happens w done.event w' done.answer → P (events ++ done ∷ []) w')
    → (events : List Done) (w : World) → Run limits budget budgets events w → P events w
run_keeps limits budget budgets P first next events w run = from [] events (boot limits budget budgets) w refl first run
  where
    from : (before later : List Done) (w w' : World) → Run limits budget budgets before w → P before w → Runs w later w' → P (before ++ later) w'
    from before [] w w' run p r = subst (λ (x : World). P (before ++ []) x) (sym r) (subst (λ (xs : List Done). P xs w) (sym (append-nil before)) p)
    from before (done ∷ later) w w' run p r =
        subst (λ (xs : List Done). P xs w') (append_assoc before (done ∷ []) later)
        (from (before ++ done ∷ []) later r.0 w' (runs_more (boot limits budget budgets) w r.0 before done run r.1) (next before w r.0 done run p r.1) r.2)
