-- Cores that ran beside each other: what core 0 sends next goes to cores that have taken all, and where all is taken they are at rest.
use Rattle.std.proofs.Common.{◌≡◌, ◌≢◌, ◌+◌, ◌<◌, ℕ, suc, false, Option, Some, List, [], ◌∷◌, ◌++◌, length, map, slice_get, slice_index_or, refl, ap, sym, ◌∙◌, subst, arith, length-append}
use Rattle.std.specs.Prelude.{drop, option_map}
use Rattle.std.proofs.lemmas.Option.{slice_get_within}
use Rattle.filter_table.proofs.Positions.{get_at}
use mathlib.Core.List.{IsPrefix}
use Rattle.filter_table.specs.Limits.{TableLimits}
use Rattle.filter_table.specs.declared.operation.Op.{Op}
use Rattle.filter_table.specs.Tables.{TableState, table}
use Rattle.monitor_messages.specs.declared.message.Message.{Message}
use Rattle.two_phase.specs.declared.step.Step.{Step}
use Rattle.two_phase.specs.Coordinators.{CoordinatorPlace, Requests, Idle}
use Rattle.world_events.specs.declared.event.Answer.{Answer}
use Rattle.world_model.specs.Cases.{outgoing, TakesUpAt}
use Rattle.world_model.specs.Worlds.{Peer, World, newest, gave, core0_moves, HappensUp}
use Rattle.world_model.specs.Agreement.{commitments}
use Rattle.world_model.proofs.Agreement.{run_inv, idle_if_quiet}
use Rattle.world_model.proofs.Known.{Known, run_known}
use Rattle.world_model.proofs.Lists.{empty_list}
use Rattle.world_histories.specs.declared.history.Stamped.{Stamped}
use Rattle.world_histories.specs.Histories.{Stamping, Sending, sent_to, sent_by, taken_from, for_entry, Core0State, OtherState, other_first, HistoryOther, TakesInOrder, Computation}
use Rattle.world_histories.specs.Merging.{as_listed, EndsAs}
use Rattle.world_histories.proofs.Seats.{messages}
use Rattle.world_histories.proofs.Rests.{takes_in, rest_down, rest_up, takes_are, drop_front, there_or}
use Rattle.world_histories.proofs.Merge.{RunLeft, run_left}
use Rattle.world_model.specs.Refusals.{AllQuiet}
use Rattle.world_progress.specs.Remaining.{SendsToEmpty, NoneWaits, IsAtRest, AreAtRest}
use Rattle.world_progress.proofs.Rest.{quiet_rests}
use Rattle.world_progress.proofs.Fitting.{run_sends}

-- messages that are none are none with their stamps
pub no_stamped : (ms : List Stamping) → messages ms ≡ [] → ms ≡ []
no_stamped [] e = refl
no_stamped (m ∷ ms) e = absurd cc

-- a front with no rest is the whole
pub whole : {A : Type 0} (xs ys : List A) → IsPrefix xs ys → drop (length xs) ys ≡ [] → xs ≡ ys
whole {A} xs ys p none =
    let rest : p.0 ≡ [] = sym (drop_front xs p.0) ∙ (ap (drop (length xs)) p.1 ∙ none) in
    subst (λ (l : List A). l ≡ ys) (append_none xs) (subst (λ (l : List A). xs ++ l ≡ ys) rest p.1)
  where
    append_none : {A : Type 0} (xs : List A) → xs ++ [] ≡ xs
    append_none [] = refl
    append_none {A} (x ∷ xs) = ap (λ (l : List A). x ∷ l) (append_none xs)

-- a list less itself is nothing
none_over : {A : Type 0} (xs : List A) → drop (length xs) xs ≡ []
none_over [] = refl
none_over (x ∷ xs) = none_over xs

takes_at : (limits limits' : TableLimits) (log log' : List Op) (place place' next : CoordinatorPlace) (requests requests' after : Requests) (i : ℕ) (m : Message) (committed : Option Op) (told : Step) (answer : Answer) → limits' ≡ limits → log' ≡ log → place' ≡ place → requests' ≡ requests
    → TakesUpAt (table limits log (length log)) place requests i m next after committed told answer → TakesUpAt (table limits' log' (length log')) place' requests' i m next after committed told answer
takes_at limits limits' log log' place place' next requests requests' after i m committed told answer em el ep er h = rw (em, el, ep, er) h

pub next_sends : (limits : TableLimits) (budget : ℕ) (budgets : List ℕ) (core0 : List Stamped) (others : List (List Stamped)) (end : Core0State) (ends : List OtherState) → (h : Computation limits budget budgets core0 others end ends)
    → (i : ℕ) (g : List Stamped) (later : List Stamping) (m : Stamping) (place : CoordinatorPlace) (requests : Requests) (committed : Option Op) (told : Step) (answer : Answer) → slice_get others i ≡ Some g → sent_by g ≡ taken_from i h.taken ++ m ∷ later
    → TakesUpAt (table limits end.log (length end.log)) end.place end.requests i m.message place requests committed told answer
    → (j b : ℕ) (x : List Stamped) (d : OtherState) → slice_get budgets j ≡ Some b → slice_get others j ≡ Some x → slice_get ends j ≡ Some d → for_entry j (outgoing told place) ≢ []
    → (t : TakesInOrder j limits b h.sent h.taken x d) → t.taken ≡ sent_to j h.sent
next_sends limits budget budgets core0 others end ends h i g later m place requests committed told answer at_g sent here j b x d at_b at_x at_d some t =
    whole t.taken (sent_to j h.sent) t.down (sym rest ∙ none)
  where
    left : RunLeft limits budget budgets end ends others h.sent h.taken
    left = run_left limits budget budgets core0 others end ends h

    w : World
    w = left.world

    known : Known limits budget budgets (as_listed left.merged) w
    known = run_known limits budget budgets (as_listed left.merged) w left.run

    p : (p : Peer) × (slice_get w.peers i ≡ Some p)
    p = get_at w.peers i (omega (arith, known.cores, h.cores, slice_get_within others i g at_g))

    oldest : p.0.up ≡ m.message ∷ messages later
    oldest = (left.under_way i p.0 p.1).1 ∙ ap messages
        (ap (λ (y : List Stamped). drop (length (taken_from i h.taken)) (sent_by y)) (there_or others i g [] at_g) ∙ (ap (drop (length (taken_from i h.taken))) sent ∙ drop_front (taken_from i h.taken) (m ∷ later)))

    happens : HappensUp w i (core0_moves (gave w i p.0 (messages later)) place requests committed (outgoing told place)) answer
    happens = record {
      peer = p.0;
      is_peer = p.1;
      m = m.message;
      rest = messages later;
      oldest = oldest;
      place = place;
      requests = requests;
      committed = committed;
      told = told;
      here = takes_at limits w.limits end.log w.log end.place w.place place end.requests w.requests requests i m.message committed told answer (run_known limits budget budgets (as_listed left.merged) w left.run).limits_is left.all_end.log_is left.all_end.place_is left.all_end.requests_are here;
      next = refl;
    }

    q : (q : Peer) × (slice_get w.peers j ≡ Some q)
    q = get_at w.peers j (omega (arith, known.cores, slice_get_within budgets j b at_b))

    none : rest_down others h.sent j ≡ []
    none = no_stamped (rest_down others h.sent j) (sym (left.under_way j q.0 q.1).0 ∙ run_sends limits budget budgets (as_listed left.merged) w _ i answer left.run happens j q.0 q.1 some)

    rest : rest_down others h.sent j ≡ drop (length t.taken) (sent_to j h.sent)
    rest = ap (λ (n : ℕ). drop n (sent_to j h.sent)) (ap takes_in (there_or others j x [] at_x) ∙ takes_are j b (other_first limits) d x t.taken t.is_history)

pub all_taken_rest : (limits : TableLimits) (budget : ℕ) (budgets : List ℕ) (core0 : List Stamped) (others : List (List Stamped)) (end : Core0State) (ends : List OtherState) → (h : Computation limits budget budgets core0 others end ends)
    → ((i b : ℕ) (g : List Stamped) (d : OtherState) → slice_get budgets i ≡ Some b → slice_get others i ≡ Some g → slice_get ends i ≡ Some d → (t : TakesInOrder i limits b h.sent h.taken g d) → (t.taken ≡ sent_to i h.sent) × (taken_from i h.taken ≡ sent_by g))
    → ((i : ℕ) (op : Op) → slice_get end.requests.waiting i ≡ Some (Some op) → ⊥) → AreAtRest end ends
all_taken_rest limits budget budgets core0 others end ends h all none = record {
  idle = sym (ap (λ (x : CoordinatorPlace). x.phase) left.all_end.place_is) ∙ rests.idle;
  others = λ i d at.
      let p = get_at w.peers i (omega (arith, known.cores, h.all_end, slice_get_within ends i d at)) in
      let e : EndsAs w p.0 d = left.all_end.others i p.0 d p.1 at in
      (sym e.outstanding_is ∙ rests.none_outstanding i p.0 p.1, sym e.version_is ∙ (rests.one_version (suc i) p.0.version (ap (λ (o : Option Peer). version_in o) p.1) ∙ ap length left.all_end.log_is));
}
  where
    left : RunLeft limits budget budgets end ends others h.sent h.taken
    left = run_left limits budget budgets core0 others end ends h

    w : World
    w = left.world

    known : Known limits budget budgets (as_listed left.merged) w
    known = run_known limits budget budgets (as_listed left.merged) w left.run

    version_in : Option Peer → Option ℕ
    version_in o = option_map (λ (x : Peer). x.version) o

    quiet : AllQuiet w
    quiet i p at =
        let u = left.under_way i p at in
        let b = get_at budgets i (omega (arith, known.cores, slice_get_within w.peers i p at)) in
        let g = get_at others i (omega (arith, known.cores, h.cores, slice_get_within w.peers i p at)) in
        let d = get_at ends i (omega (arith, known.cores, h.all_end, slice_get_within w.peers i p at)) in
        let t = h.of_other i b.0 g.0 d.0 b.1 g.1 d.1 in
        let a = all i b.0 g.0 d.0 b.1 g.1 d.1 t in
        record {
          none_down = u.0 ∙ ap messages (ap (λ (n : ℕ). drop n (sent_to i h.sent)) (ap takes_in (there_or others i g.0 [] g.1) ∙ takes_are i b.0 (other_first limits) d.0 g.0 t.taken t.is_history)
              ∙ (ap (drop (length t.taken)) (sym a.0) ∙ none_over t.taken));
          none_up = u.1 ∙ ap messages (ap (λ (y : List Stamped). drop (length (taken_from i h.taken)) (sent_by y)) (there_or others i g.0 [] g.1) ∙ (ap (drop (length (taken_from i h.taken))) (sym a.1) ∙ none_over (taken_from i h.taken)));
        }

    waits_none : NoneWaits w
    waits_none i op at = none i op (subst (λ (r : Requests). slice_get r.waiting i ≡ Some (Some op)) left.all_end.requests_are at)

    rests : IsAtRest w
    rests = quiet_rests limits budget budgets (as_listed left.merged) w left.run quiet waits_none

-- where all is taken core 0 is idle; and the list of waiting requests has a place for each core
pub all_taken_idle : (limits : TableLimits) (budget : ℕ) (budgets : List ℕ) (core0 : List Stamped) (others : List (List Stamped)) (end : Core0State) (ends : List OtherState) → (h : Computation limits budget budgets core0 others end ends)
    → ((i b : ℕ) (g : List Stamped) (d : OtherState) → slice_get budgets i ≡ Some b → slice_get others i ≡ Some g → slice_get ends i ≡ Some d → (t : TakesInOrder i limits b h.sent h.taken g d) → (t.taken ≡ sent_to i h.sent) × (taken_from i h.taken ≡ sent_by g))
    → (end.place.phase ≡ Idle) × (length end.requests.waiting ≡ length budgets)
all_taken_idle limits budget budgets core0 others end ends h all = (
  sym (ap (λ (x : CoordinatorPlace). x.phase) left.all_end.place_is) ∙ idle_if_quiet w (run_inv limits budget budgets (as_listed left.merged) w left.run) (λ i p at. (ap commitments (quiet i p at).0, ap commitments (quiet i p at).1)),
  ap (λ (r : Requests). length r.waiting) (sym left.all_end.requests_are) ∙ known.waiting_long,
)
  where
    left : RunLeft limits budget budgets end ends others h.sent h.taken
    left = run_left limits budget budgets core0 others end ends h

    w : World
    w = left.world

    known : Known limits budget budgets (as_listed left.merged) w
    known = run_known limits budget budgets (as_listed left.merged) w left.run

    quiet : (i : ℕ) (p : Peer) → slice_get w.peers i ≡ Some p → (p.down ≡ []) × (p.up ≡ [])
    quiet i p at =
        let u = left.under_way i p at in
        let b = get_at budgets i (omega (arith, known.cores, slice_get_within w.peers i p at)) in
        let g = get_at others i (omega (arith, known.cores, h.cores, slice_get_within w.peers i p at)) in
        let d = get_at ends i (omega (arith, known.cores, h.all_end, slice_get_within w.peers i p at)) in
        let t = h.of_other i b.0 g.0 d.0 b.1 g.1 d.1 in
        let a = all i b.0 g.0 d.0 b.1 g.1 d.1 t in (
          u.0 ∙ ap messages (ap (λ (n : ℕ). drop n (sent_to i h.sent)) (ap takes_in (there_or others i g.0 [] g.1) ∙ takes_are i b.0 (other_first limits) d.0 g.0 t.taken t.is_history)
              ∙ (ap (drop (length t.taken)) (sym a.0) ∙ none_over t.taken)),
          u.1 ∙ ap messages (ap (λ (y : List Stamped). drop (length (taken_from i h.taken)) (sent_by y)) (there_or others i g.0 [] g.1) ∙ (ap (drop (length (taken_from i h.taken))) (sym a.1) ∙ none_over (taken_from i h.taken))),
        )
