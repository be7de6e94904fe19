-- What a list of events tells of the cores is so in the world that it leads to.
use Rattle.std.proofs.Common.{◌≡◌, ◌+◌, ◌≤◌, ◌⊎◌, ℕ, zero, suc, Bool, cond, Option, Some, None, List, [], ◌∷◌, ◌++◌, length, map, slice_get, refl, ap, sym, ◌∙◌, subst, arith}
use Rattle.std.specs.Prelude.{option_map}
use Rattle.std.proofs.lemmas.List.{length-map, length-replicate}
use Rattle.std.proofs.lemmas.List.Sums.{sum_by-append}
use Rattle.filter_table.specs.Limits.{TableLimits}
use Rattle.filter_table.specs.Tables.{table, instructions}
use Rattle.filter_table.specs.declared.decision.Vote.{Vote}
use Rattle.world_events.specs.declared.event.Event.{Event}
use Rattle.world_events.specs.declared.event.Answer.{Answer}
use Rattle.world_events.specs.declared.event.Done.{Done}
use Rattle.world_model.specs.Worlds.{Peer, World, boot, new_peer, version_at, Run}
use Rattle.world_model.specs.Agreement.{Agrees, Grows}
use Rattle.world_model.specs.Readings.{commits_at, version_of, vote_with, vote_after, vote_of}
use Rattle.world_model.proofs.Lists.{get_map}
use Rattle.world_model.proofs.Invariant.{Inv}
use Rattle.world_model.proofs.Steps.{rests}
use Rattle.world_model.proofs.Runs.{run_keeps}
use Rattle.world_model.proofs.Moves.{Matches, EventMoves, event_moves}
use Rattle.world_model.proofs.Agreement.{run_inv, pair_version, of_core, idle_if_quiet}
use Rattle.std.proofs.lemmas.Option.{slice_get_within}
use Rattle.filter_table.proofs.Positions.{get_at}

-- One event more

pub version_of-more : (core : ℕ) (events : List Done) (done : Done) → version_of core (events ++ done ∷ []) ≡ version_of core events + cond (commits_at core done.event done.answer) 1 0
version_of-more core events done = omega (arith, sum_by-append (λ (d : Done). cond (commits_at core d.event d.answer) 1 0) events (done ∷ []))

vote_after-append : (core txn : ℕ) (known : Option Vote) (xs : List Done) (done : Done) → vote_after core txn known (xs ++ done ∷ []) ≡ vote_with core txn (vote_after core txn known xs) done.event done.answer
vote_after-append core txn known [] done = refl
vote_after-append core txn known (x ∷ xs) done = vote_after-append core txn (vote_with core txn known x.event x.answer) xs done

pub record Known (limits : TableLimits) (budget : ℕ) (budgets : List ℕ) (events : List Done) (w : World) : Type 0 where
  pub limits_is : w.limits ≡ limits
  pub budget_is : w.budget ≡ budget
  pub cores : length w.peers ≡ length budgets
  pub budgets_are : (i : ℕ) (p : Peer) → slice_get w.peers i ≡ Some p → slice_get budgets i ≡ Some p.budget
  pub waiting_long : length w.requests.waiting ≡ length budgets
  pub version0 : w.version ≡ version_of 0 events
  pub versions : (i : ℕ) (p : Peer) → slice_get w.peers i ≡ Some p → p.version ≡ version_of (suc i) events
  pub votes : (i : ℕ) (p : Peer) (v : Vote) → slice_get w.peers i ≡ Some p → p.place.voted ≡ Some v → vote_of (suc i) p.place.last events ≡ Some v

known_boot : (limits : TableLimits) (budget : ℕ) (budgets : List ℕ) → Known limits budget budgets [] (boot limits budget budgets)
known_boot limits budget budgets = record {
  limits_is = refl;
  budget_is = refl;
  cores = length-map budgets new_peer;
  budgets_are = λ i p at. let r = get_map new_peer budgets i p at in rw r.2 r.1;
  waiting_long = length-replicate (length budgets) None;
  version0 = refl;
  versions = λ i p at. let r = get_map new_peer budgets i p at in rw r.2 refl;
  votes = λ i p v at voted. absurd (let r = get_map new_peer budgets i p at in let e = sym (ap (λ (x : Peer). x.place.voted) r.2) ∙ voted in cc);
}

-- a core of the new list, with what it was
pub was : (R : ℕ → Peer → Peer → Type 0) (old new : List Peer) (i : ℕ) (q : Peer) → Matches R old new → slice_get new i ≡ Some q → (p : Peer) × (slice_get old i ≡ Some p) × R i p q
was R old new i q m at =
    let r = get_at old i (omega (arith, m.long, slice_get_within new i q at)) in
    (r.0, r.1, m.each i r.0 q r.1 at)

known_more : (limits : TableLimits) (budget : ℕ) (budgets : List ℕ) (events : List Done) (w w' : World) (done : Done) → Known limits budget budgets events w → EventMoves w done.event w' done.answer → Known limits budget budgets (events ++ done ∷ []) w'
known_more limits budget budgets events w w' done k m = record {
  limits_is = m.same_limits ∙ k.limits_is;
  budget_is = m.same_budget ∙ k.budget_is;
  cores = m.peers.long ∙ k.cores;
  budgets_are = λ i q at. let r = was _ w.peers w'.peers i q m.peers at in rw r.2.same_budget (k.budgets_are i r.0 r.1);
  waiting_long = m.waiting_long ∙ k.waiting_long;
  version0 = m.version_is ∙ (rw k.version0 (sym (version_of-more 0 events done)));
  versions = λ i q at. let r = was _ w.peers w'.peers i q m.peers at in r.2.version_is ∙ (rw (k.versions i r.0 r.1) (sym (version_of-more (suc i) events done)));
  votes = λ i q v at voted.
      let r = was _ w.peers w'.peers i q m.peers at in
      vote_after-append (suc i) q.place.last None events done ∙ r.2.keeps_vote (λ n. vote_of (suc i) n events) (λ v' x. k.votes i r.0 v' r.1 x) v voted;
}

pub run_known : (limits : TableLimits) (budget : ℕ) (budgets : List ℕ) (events : List Done) (w : World) → Run limits budget budgets events w → Known limits budget budgets events w
run_known limits budget budgets = run_keeps limits budget budgets (Known limits budget budgets) (known_boot limits budget budgets)
    (λ events w w' done run k h. known_more limits budget budgets events w w' done k (event_moves w w' done.event done.answer (run_inv limits budget budgets events w run) h))

-- The budgets of the cores

budgets_of : (peers : List Peer) (budgets : List ℕ) → length peers ≡ length budgets → ((i : ℕ) (p : Peer) → slice_get peers i ≡ Some p → slice_get budgets i ≡ Some p.budget) → map (λ (p : Peer). p.budget) peers ≡ budgets
budgets_of [] [] long same = refl
budgets_of [] (b ∷ bs) long same = absurd (omega (arith, long))
budgets_of (p ∷ ps) [] long same = absurd (omega (arith, long))
budgets_of (p ∷ ps) (b ∷ bs) long same =
    let first : Some b ≡ Some p.budget = same 0 p refl in
    let e : b ≡ p.budget = cc in
    let rest = budgets_of ps bs (omega (arith, long)) (λ i q at. same (suc i) q at) in
    rw (rest, e) refl

pub known_agrees : (limits : TableLimits) (budget : ℕ) (budgets : List ℕ) (events : List Done) (w : World) → Inv w → Known limits budget budgets events w → Agrees limits budget budgets w
known_agrees limits budget budgets events w inv k = record {
  limits_kept = k.limits_is;
  budget0 = k.budget_is;
  budgets_kept = budgets_of w.peers budgets k.cores k.budgets_are;
  waiting_kept = k.waiting_long;
  core0 = inv.version;
  others = λ i v at.
      let r = of_core (λ (p : Peer). p.version) w.peers i v (slice_get w.peers i) refl at in
      subst (λ (x : ℕ). (x ≡ length w.log) ⊎ (x + 1 ≡ length w.log)) r.2 (pair_version w.limits w.log w.place i r.0 (inv.pairs i r.0 r.1));
  allowed = λ n op at. rw (← k.budget_is) (inv.allowed n op at);
  fits = fits;
  settled = λ idle i p at. let is = rests w.limits w.log w.place i p idle (inv.pairs i p at) in record { newest_version = is.version_is; none_down = is.down_is; none_up = is.up_is };
  idle = idle_if_quiet w inv;
}
  where
    fits : (core v b : ℕ) → version_at w core ≡ Some v → slice_get (budget ∷ budgets) core ≡ Some b → instructions (table w.limits w.log v) ≤ b
    fits zero v b at bound = let e : v ≡ length w.log = cc (inv.version, at) in let e' : w.budget ≡ b = cc (bound, k.budget_is) in rw (e, ← e') inv.fits
    fits (suc i) v b at bound =
        let r = of_core (λ (p : Peer). p.version) w.peers i v (slice_get w.peers i) refl at in
        let same : Some r.0.budget ≡ Some b = sym (k.budgets_are i r.0 r.1) ∙ bound in
        let same_budget : r.0.budget ≡ b = cc in
        subst (λ (x : ℕ). instructions (table w.limits w.log x) ≤ b) r.2 (subst (λ (x : ℕ). instructions (table w.limits w.log r.0.version) ≤ x) same_budget (inv.within i r.0 r.1).fits)

-- Growth

pub moves_grow : (w w' : World) (event : Event) (answer : Answer) → EventMoves w event w' answer → Grows w w'
moves_grow w w' event answer m = record { limits = m.same_limits; log = m.log_is; versions = by_core }
  where
    one_more : (b : Bool) (v v' : ℕ) → v' ≡ v + cond b 1 0 → (v ≤ v') × (v' ≤ v + 1)
    one_more Bool.true v v' e = (omega (arith, e), omega (arith, e))
    one_more Bool.false v v' e = (omega (arith, e), omega (arith, e))

    by_core : (core v : ℕ) → version_at w core ≡ Some v → (v' : ℕ) × (version_at w' core ≡ Some v') × (v ≤ v') × (v' ≤ v + 1)
    by_core zero v at =
        let e : w.version ≡ v = cc in
        let r = one_more (commits_at 0 event answer) v w'.version (m.version_is ∙ ap (λ (n : ℕ). n + cond (commits_at 0 event answer) 1 0) e) in
        (w'.version, refl, r.0, r.1)
    by_core (suc i) v at =
        let p = of_core (λ (p : Peer). p.version) w.peers i v (slice_get w.peers i) refl at in
        let q = get_at w'.peers i (omega (arith, m.peers.long, slice_get_within w.peers i p.0 p.1)) in
        let moved = m.peers.each i p.0 q.0 p.1 q.1 in
        let r = one_more (commits_at (suc i) event answer) v q.0.version (moved.version_is ∙ ap (λ (n : ℕ). n + cond (commits_at (suc i) event answer) 1 0) p.2) in
        (q.0.version, ap (option_map (λ (x : Peer). x.version)) q.1, r.0, r.1)
