-- Where a word is the last of its kind, the cores to which core 0 then sends have taken all that it sent before.
use Rattle.std.proofs.Common.{◌≡◌, ◌≢◌, ◌<◌, ◌⊎◌, inl, inr, ℕ, zero, suc, Bool, true, false, Option, None, Some, List, [], ◌∷◌, ◌++◌, length, slice_get, slice_set, slice_index_or, refl, ap, sym, ◌∙◌, subst, arith}
use Rattle.std.specs.Prelude.{drop}
use Rattle.std.specs.List.{list_all}
use Rattle.std.proofs.lemmas.Option.{slice_get_within}
use Rattle.filter_table.proofs.Positions.{get_at}
use Rattle.filter_table.specs.Limits.{TableLimits}
use Rattle.filter_table.specs.declared.decision.Vote.{Vote}
use Rattle.monitor_messages.specs.declared.message.Message.{Message}
use Rattle.monitor_messages.specs.declared.message.Message.TheVariants as message
use Rattle.two_phase.specs.Coordinators.{Phase, Requests, CoordinatorPlace, Idle, Voting, Acking}
use Rattle.world_events.specs.declared.event.Done.{Done}
use Rattle.world_model.specs.Cases.{Outgoing, nothing, to_all, to_one}
use Rattle.world_model.specs.Worlds.{Peer, World, newest, Run}
use Rattle.world_model.specs.Agreement.{commitments}
use Rattle.world_model.specs.Readings.{Request, request_of}
use Rattle.world_model.proofs.Lists.{get-set_other, same_or_not, all_true}
use Rattle.world_model.proofs.Invariant.{Alone, Inv}
use Rattle.world_model.proofs.Submissions.{Inv2, eq_other}
use Rattle.world_model.proofs.Agreement.{run_inv, run_stages}
use Rattle.world_model.proofs.Known.{Known, run_known}
use Rattle.world_histories.specs.declared.history.Stamped.{Stamped}
use Rattle.world_histories.specs.Histories.{Stamping, Sending, sent_to, sent_by, taken_from, for_entry, Core0State, OtherState, other_first, TakesInOrder, Computation}
use Rattle.world_histories.specs.Merging.{as_listed}
use Rattle.world_histories.proofs.Seats.{messages}
use Rattle.world_histories.proofs.Rests.{takes_in, rest_down, takes_are, drop_front, there_or}
use Rattle.world_histories.proofs.Merge.{RunLeft, run_left}
use Rattle.world_progress.specs.Remaining.{SendsToEmpty, IsLastWord, LastWordsComeLast}
use Rattle.world_progress.proofs.Emptied.{AllFit, neither, emptied, spoken, counted_none, finished_none, served_none}
use Rattle.world_progress.proofs.Fitting.{run_fits}
use Rattle.world_progress.proofs.LeftOver.{no_stamped, whole}

-- the last vote
last_vote : (w : World) (r : ℕ → Request) (i txn : ℕ) (v : Vote) (p : Peer) (rest : List Message) (votes : List (Option Vote)) → Inv w → Inv2 w r → AllFit w → slice_get w.peers i ≡ Some p → p.up ≡ message.Vote txn v ∷ rest
    → w.place.phase ≡ Voting votes → ((k : ℕ) → slice_get (slice_set votes i (Some v)) k ≢ Some None) → (j : ℕ) (x : Peer) → slice_get w.peers j ≡ Some x → x.down ≡ []
last_vote w r i txn v p rest votes inv inv2 fits at oldest voting all j x at_x = emptied w.place w.requests j x (r j) (λ idle. cc (voting, idle)) (fits j x at_x) (by_place (same_or_not i j)) (inv2.stages j x at_x)
  where
    by_vote : (o : Option Vote) → slice_get votes j ≡ Some o → slice_get (slice_set votes i (Some v)) j ≡ Some o → commitments x.down ≡ []
    by_vote None a b = absurd (all j b)
    by_vote (Some v') a b = counted_none w.limits w.log w.place j x votes v' voting a (inv.pairs j x at_x)

    long : length votes ≡ length w.peers
    long = let a = subst (λ (y : Phase). Alone (length w.peers) (newest w) w.budget y w.place.staged) voting inv.alone_ok in a.4

    by_place : (i ≡ j) ⊎ (i ≡ j → ⊥) → commitments x.down ≡ []
    by_place (inl e) =
        let at_i : slice_get w.peers i ≡ Some x = subst (λ (n : ℕ). slice_get w.peers n ≡ Some x) (sym e) at_x in
        let same : p ≡ x = cc (at, at_i) in
        subst (λ (y : Peer). commitments y.down ≡ []) same (spoken w.limits w.log w.place i p (message.Vote txn v) (commitments rest) (ap commitments oldest) (inv.pairs i p at))
    by_place (inr ne) =
        let g = get_at votes j (omega (arith, long, slice_get_within w.peers j x at_x)) in
        by_vote g.0 g.1 (get-set_other votes i j (Some v) ne ∙ g.1)

-- the last acknowledgement
last_ack : (w : World) (r : ℕ → Request) (i txn : ℕ) (p : Peer) (rest : List Message) (acks : List Bool) (asker : ℕ) → Inv w → Inv2 w r → slice_get w.peers i ≡ Some p → p.up ≡ message.Ack txn ∷ rest
    → w.place.phase ≡ Acking acks → list_all (λ ack. ack) (slice_set acks i true) ≡ true → w.requests.asker ≡ Some (suc asker) → (x : Peer) → slice_get w.peers asker ≡ Some x → x.down ≡ []
last_ack w r i txn p rest acks asker inv inv2 at oldest acking all asks x at_x = neither x.down (by_place (same_or_not i asker)) (served_none w.place w.requests asker x (r asker) asks (inv2.stages asker x at_x))
  where
    long : length acks ≡ length w.peers
    long = let a = subst (λ (y : Phase). Alone (length w.peers) (newest w) w.budget y w.place.staged) acking inv.alone_ok in a.2

    by_place : (i ≡ asker) ⊎ (i ≡ asker → ⊥) → commitments x.down ≡ []
    by_place (inl e) =
        let at_i : slice_get w.peers i ≡ Some x = subst (λ (n : ℕ). slice_get w.peers n ≡ Some x) (sym e) at_x in
        let same : p ≡ x = cc (at, at_i) in
        subst (λ (y : Peer). commitments y.down ≡ []) same (spoken w.limits w.log w.place i p (message.Ack txn) (commitments rest) (ap commitments oldest) (inv.pairs i p at))
    by_place (inr ne) =
        let g = get_at acks asker (omega (arith, long, slice_get_within w.peers asker x at_x)) in
        let b : g.0 ≡ true = all_true (slice_set acks i true) all asker g.0 (get-set_other acks i asker true ne ∙ g.1) in
        finished_none w.limits w.log w.place asker x acks acking (g.1 ∙ ap (λ (y : Bool). Some y) b) (inv.pairs asker x at_x)

last_word : (w : World) (r : ℕ → Request) (i : ℕ) (p : Peer) (m : Message) (rest : List Message) (out : Outgoing) → Inv w → Inv2 w r → AllFit w → slice_get w.peers i ≡ Some p → p.up ≡ m ∷ rest → IsLastWord w.place w.requests i m out → SendsToEmpty w out
last_word w r i p m rest nothing inv inv2 fits at e last = λ j x at_x some. absurd (some refl)
last_word w r i p (message.Vote txn v) rest (to_all said) inv inv2 fits at e last = λ j x at_x some. last_vote w r i txn v p rest last.0 inv inv2 fits at e last.1 last.2 j x at_x
last_word w r i p (message.Ack txn) rest (to_one asker said) inv inv2 fits at e last = λ j x at_x some. by_place j x at_x some (same_or_not asker j)
  where
    by_place : (j : ℕ) (x : Peer) → slice_get w.peers j ≡ Some x → for_entry j (to_one asker said) ≢ [] → (asker ≡ j) ⊎ (asker ≡ j → ⊥) → x.down ≡ []
    by_place j x at_x some (inl is) = last_ack w r i txn p rest last.0 asker inv inv2 at e last.1 last.2 last.3 x (subst (λ (n : ℕ). slice_get w.peers n ≡ Some x) (sym is) at_x)
    by_place j x at_x some (inr ne) = absurd (some (rw (eq_other asker j ne) refl))
last_word w r i p m rest out inv inv2 fits at e last = absurd last

pub last_words : (limits : TableLimits) (budget : ℕ) (budgets : List ℕ) (core0 : List Stamped) (others : List (List Stamped)) (end : Core0State) (ends : List OtherState) → (h : Computation limits budget budgets core0 others end ends) → LastWordsComeLast limits budgets others end ends h.sent h.taken
last_words limits budget budgets core0 others end ends h i g later m out at_g sent last j b x d at_b at_x at_d some t = whole t.taken (sent_to j h.sent) t.down (sym rest ∙ none)
  where
    left : RunLeft limits budget budgets end ends others h.sent h.taken
    left = run_left limits budget budgets core0 others end ends h

    w : World
    w = left.world

    known : Known limits budget budgets (as_listed left.merged) w
    known = run_known limits budget budgets (as_listed left.merged) w left.run

    p : (p : Peer) × (slice_get w.peers i ≡ Some p)
    p = get_at w.peers i (omega (arith, known.cores, h.cores, slice_get_within others i g at_g))

    oldest : p.0.up ≡ m.message ∷ messages later
    oldest = (left.under_way i p.0 p.1).1 ∙ ap messages
        (ap (λ (y : List Stamped). drop (length (taken_from i h.taken)) (sent_by y)) (there_or others i g [] at_g) ∙ (ap (drop (length (taken_from i h.taken))) sent ∙ drop_front (taken_from i h.taken) (m ∷ later)))

    is_last : IsLastWord w.place w.requests i m.message out
    is_last = subst (λ (y : CoordinatorPlace). IsLastWord y w.requests i m.message out) (sym left.all_end.place_is) (subst (λ (y : Requests). IsLastWord end.place y i m.message out) (sym left.all_end.requests_are) last)

    q : (q : Peer) × (slice_get w.peers j ≡ Some q)
    q = get_at w.peers j (omega (arith, known.cores, slice_get_within budgets j b at_b))

    none : rest_down others h.sent j ≡ []
    none = no_stamped (rest_down others h.sent j) (sym (left.under_way j q.0 q.1).0
        ∙ last_word w (λ k. request_of (suc k) (as_listed left.merged)) i p.0 m.message (messages later) out (run_inv limits budget budgets (as_listed left.merged) w left.run) (run_stages limits budget budgets (as_listed left.merged) w left.run)
        (run_fits limits budget budgets (as_listed left.merged) w left.run) p.1 oldest is_last j q.0 q.1 some)

    rest : rest_down others h.sent j ≡ drop (length t.taken) (sent_to j h.sent)
    rest = ap (λ (n : ℕ). drop n (sent_to j h.sent)) (ap takes_in (there_or others j x [] at_x) ∙ takes_are j b (other_first limits) d x t.taken t.is_history)
