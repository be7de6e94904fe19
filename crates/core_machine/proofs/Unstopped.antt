-- No core of a machine has stopped.
use Rattle.std.proofs.Common.{◌≡◌, ◌<◌, ℕ, zero, suc, List, [], ◌∷◌, length, map, Option, Some, None, slice_get, refl, sym, ap, ◌∙◌, subst, arith}
use Rattle.std.proofs.lemmas.List.{length-map}
use Rattle.std.proofs.lemmas.Option.{slice_get_within}
use Rattle.filter_table.proofs.Positions.{get_at}
use Rattle.world_model.proofs.Lists.{get_map}
use Rattle.world_histories.specs.declared.history.Stamped.{Stamped}
use Rattle.world_histories.specs.Histories.{Core0State, OtherState}
use Rattle.core_links.specs.Views.{LinkView, no_link}
use Rattle.core_links.specs.Slots.{place_view}
use Rattle.core_links.specs.RingSlots.{link_to, link_view, ring_view}
use Rattle.core_links.specs.declared.ring_links.Link.{Link}
use Rattle.core_loop.specs.declared.part.Part.{Part}
use Rattle.core_loop.specs.declared.part.Part.TheVariants as part
use Rattle.core_loop.specs.declared.cause.Cause.{Cause}
use Rattle.core_loop.specs.declared.cause.Cause.TheVariants as cause
use Rattle.core_loop.specs.Standing.{Stands0, StandsOther, AreBeside}
use Rattle.core_loop.specs.Keeping.{replica_of}
use Rattle.core_loop.specs.Taking.{StopsAt}
use Rattle.core_loop.specs.Turning.{HasStopped}
use Rattle.core_machine.specs.Beside.{StandBeside}
use Rattle.core_machine.proofs.Stopping.{other_goes_on, first_goes_on}
use Rattle.core_machine.specs.Machines.{RingCore, AreMachine}
use Rattle.core_machine.specs.Looking.{IsExactRing}
use Rattle.core_machine.specs.Conclusions.{histories_of, StandsAt0, StandsAtOther}
use Rattle.filter_table.specs.Limits.{TableLimits}
use Rattle.core_machine.proofs.Lists.{same_some}

-- both rings of core 0 and the core with this entry were looked at, and if the latter has stopped, its links show why
pub record IsExactCore (entry : ℕ) (first core : RingCore) : Type 0 where
  pub up : IsExactRing (ring_view core.links 0) (ring_view first.links (suc entry))
  pub down : IsExactRing (ring_view first.links (suc entry)) (ring_view core.links 0)
  pub stopped : HasStopped core.cores core.clock core.part (ring_view core.links) core.stopped

-- nothing over a link that isn't there stops a core
nothing_stops : (cores clock peer : ℕ) (x : Part) (v : ℕ → LinkView) (c : Cause) → v peer ≡ no_link → StopsAt cores clock peer x v c → ⊥
nothing_stops cores clock peer x v (cause.Line fault) none st = (let e = ap (λ (u : LinkView). u.stopped) none in cc (e, st))
nothing_stops cores clock peer x v cause.BadMessage none st = (let e = ap (λ (u : LinkView). u.kept) none in cc (e, st.1))
nothing_stops cores clock peer x v cause.Stranger none st = (let e = ap (λ (u : LinkView). u.kept) none in cc (e, st.1.there))

no_link_at : (x : Option Link) → x ≡ None → place_view link_view x ≡ no_link
no_link_at x e = ap (place_view link_view) e

mapped : {A B : Type 0} (f : A → B) (xs : List A) (i : ℕ) (x : A) → slice_get xs i ≡ Some x → slice_get (map f xs) i ≡ Some (f x)
mapped f [] i x e = absurd cc
mapped {A} f (y ∷ ys) zero x e = (let same : y ≡ x = cc in ap (λ (z : A). Some (f z)) same)
mapped f (y ∷ ys) (suc i) x e = mapped f ys i x e

-- The cores of a machine at the ends of their histories

module _ (limits : TableLimits) (budget : ℕ) (budgets : List ℕ) (first : RingCore) (others : List RingCore) (machine : AreMachine limits budget budgets first others) where
  views : List (ℕ → LinkView)
  views = map (λ (c : RingCore). ring_view c.links) others

  pub stand_beside : (end : Core0State) (ends : List OtherState) → Stands0 limits (length budgets) budget first.history (ring_view first.links) end → length ends ≡ length budgets
      → ((i b : ℕ) (c : RingCore) (d : OtherState) → slice_get budgets i ≡ Some b → slice_get others i ≡ Some c → slice_get ends i ≡ Some d → StandsOther i limits b c.history (ring_view c.links) d)
      → ((k : ℕ) (c : RingCore) → slice_get others k ≡ Some c → AreBeside k (ring_view first.links) (ring_view c.links))
      → StandBeside limits budget budgets first.history (histories_of others) (ring_view first.links) (map (λ (c : RingCore). ring_view c.links) others) end ends
  stand_beside end ends stands all stand beside = record {
    histories = length-map others (λ (c : RingCore). c.history) ∙ machine.all;
    all_views = length-map others (λ (c : RingCore). ring_view c.links) ∙ machine.all;
    all_ends = all;
    first = stands;
    others = λ i b h v d at_b at_h at_v at_d.
        let c = get_at others i (omega (arith, slice_get_within budgets i b at_b, machine.all)) in
        let x = get_map (λ (c : RingCore). c.history) others i h at_h in
        let y = get_map (λ (c : RingCore). ring_view c.links) others i v at_v in
        let is_h : c.0.history ≡ h = ap (λ (c : RingCore). c.history) (same_some c.0 x.0 (sym c.1 ∙ x.1)) ∙ sym x.2 in
        let is_v : ring_view c.0.links ≡ v = ap (λ (c : RingCore). ring_view c.links) (same_some c.0 y.0 (sym c.1 ∙ y.1)) ∙ sym y.2 in (
          subst (λ (x : List Stamped). StandsOther i limits b x v d) is_h (subst (λ (x : ℕ → LinkView). StandsOther i limits b c.0.history x d) is_v (stand i b c.0 d at_b c.1 at_d)),
          subst (λ (x : ℕ → LinkView). AreBeside i (ring_view first.links) x) is_v (beside i c.0 c.1),
        );
  }

  module _ (end : Core0State) (ends : List OtherState) (all_ends : length ends ≡ length budgets)
      (s : StandBeside limits budget budgets first.history (histories_of others) (ring_view first.links) (map (λ (c : RingCore). ring_view c.links) others) end ends) where
    -- another core
    other_runs : (i b : ℕ) (c : RingCore) (d : OtherState) → slice_get budgets i ≡ Some b → slice_get others i ≡ Some c → slice_get ends i ≡ Some d → StandsAtOther c.part c.clock d → IsExactCore i first c → c.stopped ≡ None
    other_runs i b c d at_b at_c at_d is_at exact = by_stop c.stopped refl exact.stopped
      where
        by_part : (x : Part) (peer : ℕ) (why : Cause) → c.part ≡ x → StandsAtOther x c.clock d → (replica_of x).budget ≡ b → StopsAt c.cores c.clock peer x (ring_view c.links) why → ⊥
        by_part (part.Core0 core) peer why e at eb st = at
        by_part (part.OtherCore core) zero why e at eb st =
            other_goes_on limits budget budgets first.history (histories_of others) (ring_view first.links) (map (λ (c : RingCore). ring_view c.links) others) end ends s i b c.history (ring_view c.links) d core c.cores c.clock
            exact.down.capacity exact.down.out exact.down.come why at_b (mapped (λ (c : RingCore). c.history) others i c at_c) (mapped (λ (c : RingCore). ring_view c.links) others i c at_c) at_d at eb exact.down.exact st
        by_part (part.OtherCore core) (suc peer) why e at eb st =
            nothing_stops c.cores c.clock (suc peer) (part.OtherCore core) (ring_view c.links) why (no_link_at (link_to c.links (suc peer)) ((machine.peers i b c at_b at_c).no_other peer)) st

        by_stop : (o : Option Cause) → c.stopped ≡ o → HasStopped c.cores c.clock c.part (ring_view c.links) o → c.stopped ≡ None
        by_stop None e h = e
        by_stop (Some why) e h = absurd (by_part c.part h.0 why refl is_at (machine.peers i b c at_b at_c).place.budget_is h.2)

    -- core 0
    first_runs : StandsAt0 (length budgets) first.part first.clock end → HasStopped first.cores first.clock first.part (ring_view first.links) first.stopped
        → ((k : ℕ) (c : RingCore) → slice_get others k ≡ Some c → IsExactCore k first c) → first.stopped ≡ None
    first_runs is_at stopped exact = by_stop first.stopped refl stopped
      where
        by_part : (x : Part) (peer : ℕ) (why : Cause) → peer < first.cores → StandsAt0 (length budgets) x first.clock end → StopsAt first.cores first.clock peer x (ring_view first.links) why → ⊥
        by_part (part.OtherCore core) peer why lt at st = at
        by_part (part.Core0 core) zero why lt at st = nothing_stops first.cores first.clock 0 (part.Core0 core) (ring_view first.links) why (no_link_at (link_to first.links 0) machine.no_itself) st
        by_part (part.Core0 core) (suc i) why lt at st =
            let inside : i < length budgets = omega (arith, lt, machine.place.cores_are) in
            let b = get_at budgets i inside in
            let c = get_at others i (omega (arith, inside, machine.all)) in
            let d = get_at ends i (omega (arith, inside, all_ends)) in
            let x = (exact i c.0 c.1).up in
            first_goes_on limits budget budgets first.history (histories_of others) (ring_view first.links) (map (λ (c : RingCore). ring_view c.links) others) end ends s i b.0 c.0.history (ring_view c.0.links) d.0 core first.cores first.clock
            x.capacity x.out x.come why b.1 (mapped (λ (c : RingCore). c.history) others i c.0 c.1) (mapped (λ (c : RingCore). ring_view c.links) others i c.0 c.1) d.1 at x.exact st

        by_stop : (o : Option Cause) → first.stopped ≡ o → HasStopped first.cores first.clock first.part (ring_view first.links) o → first.stopped ≡ None
        by_stop None e h = e
        by_stop (Some why) e h = absurd (by_part first.part h.0 why h.1 is_at h.2)

    -- all of them
    pub all_run : StandsAt0 (length budgets) first.part first.clock end → ((i : ℕ) (c : RingCore) (d : OtherState) → slice_get others i ≡ Some c → slice_get ends i ≡ Some d → StandsAtOther c.part c.clock d)
        → HasStopped first.cores first.clock first.part (ring_view first.links) first.stopped → ((k : ℕ) (c : RingCore) → slice_get others k ≡ Some c → IsExactCore k first c)
        → (i : ℕ) (c : RingCore) → slice_get (first ∷ others) i ≡ Some c → c.stopped ≡ None
    all_run is_at are_at stopped exact zero c at = subst (λ (x : RingCore). x.stopped ≡ None) (same_some first c at) (first_runs is_at stopped exact)
    all_run is_at are_at stopped exact (suc i) c at =
        let lt = slice_get_within others i c at in
        let b = get_at budgets i (omega (arith, lt, machine.all)) in
        let d = get_at ends i (omega (arith, lt, machine.all, all_ends)) in
        other_runs i b.0 c d.0 b.1 at d.1 (are_at i c d.0 at d.1) (exact i c at)
