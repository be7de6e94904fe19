-- The next message of a link is one that its taker waits for.
use Rattle.std.proofs.Common.{◌≡◌, ◌+◌, ◌<◌, ℕ, suc, true, Bool, Option, Some, List, [], ◌∷◌, ◌++◌, length, map, slice_get, slice_index_or, refl, ap, sym, ◌∙◌, subst, arith}
use Rattle.std.specs.Prelude.{drop}
use Rattle.std.proofs.lemmas.Option.{slice_get_within}
use Rattle.filter_table.proofs.Positions.{get_at}
use Rattle.filter_table.specs.Limits.{TableLimits}
use Rattle.filter_table.specs.declared.operation.Op.{Op}
use Rattle.filter_table.specs.Tables.{TableState, table}
use Rattle.monitor_messages.specs.declared.message.Message.{Message}
use Rattle.monitor_messages.specs.declared.message.Message.TheVariants as message
use Rattle.two_phase.specs.Participants.{ParticipantPlace, Fits}
use Rattle.two_phase.specs.Coordinators.{CoordinatorPlace, Requests}
use Rattle.world_model.specs.Worlds.{Peer, World, newest}
use Rattle.world_model.specs.Agreement.{commitments, Expects, Awaits, NoStranger}
use Rattle.world_model.proofs.Invariant.{Pair, at_rest, asked, voted, counted, to_commit, to_abort, acked, finished, Inv}
use Rattle.world_model.proofs.Agreement.{run_inv}
use Rattle.world_histories.proofs.Owns.{whole_front}
use Rattle.world_model.proofs.RunLaws.{run_no_stranger}
use Rattle.world_model.proofs.Known.{Known, run_known}
use Rattle.world_histories.specs.declared.history.Stamped.{Stamped}
use Rattle.world_histories.specs.Histories.{Stamping, Sending, sent_to, sent_by, taken_from, Core0State, OtherState, other_first, HistoryOther, Computation}
use Rattle.world_histories.specs.Merging.{as_listed, EndsAs}
use Rattle.world_histories.proofs.Seats.{messages}
use Rattle.world_histories.proofs.Rests.{takes_in, rest_down, rest_up, takes_are, drop_front, there_or}
use Rattle.world_histories.proofs.Merge.{RunLeft, run_left}
use Rattle.world_progress.specs.Remaining.{AwaitsAt, NextIsAwaited}

-- a core that is asked next has all of the log
asked_newest : (limits : TableLimits) (log : List Op) (place : CoordinatorPlace) (i : ℕ) (p : Peer) (txn : ℕ) (op : Op) (rest : List Message) → commitments p.down ≡ message.Prepare txn op ∷ rest → Pair limits log place i p → p.version ≡ length log
asked_newest limits log place i p txn op rest d (asked votes o last ph st at le is) = is.version_is
asked_newest limits log place i p txn op rest d (to_commit acks o version ph at le fits entry is) = absurd (cc (d, is.down_is))
asked_newest limits log place i p txn op rest d (to_abort acks v st ph at is) = absurd (cc (d, is.down_is))
asked_newest limits log place i p txn op rest d (at_rest ph is) = absurd (cc (d, is.down_is))
asked_newest limits log place i p txn op rest d (voted votes o v short ph st at c is) = absurd (cc (d, is.down_is))
asked_newest limits log place i p txn op rest d (counted votes o v short ph st at c is) = absurd (cc (d, is.down_is))
asked_newest limits log place i p txn op rest d (acked acks ph at is) = absurd (cc (d, is.down_is))
asked_newest limits log place i p txn op rest d (finished acks ph at is) = absurd (cc (d, is.down_is))

awaits_at : (w : World) (p : Peer) (b : ℕ) (d : OtherState) (m : Message) → w.limits ≡ d.limits → ((txn : ℕ) (op : Op) → m ≡ message.Prepare txn op → w.log ≡ d.log) → p.budget ≡ b → p.place ≡ d.place → p.outstanding ≡ d.outstanding → Awaits w p m → AwaitsAt b d m
awaits_at w p b d (message.Reply decision) em el eb ep eo a = sym eo ∙ a
awaits_at w p b d (message.Prepare txn op) em el eb ep eo a =
    subst (λ (x : ParticipantPlace). Fits (table d.limits d.log (length d.log)) b x (message.Prepare txn op)) ep
    (subst (λ (n : ℕ). Fits (table d.limits d.log (length d.log)) n p.place (message.Prepare txn op)) eb
    (subst (λ (l : List Op). Fits (table d.limits l (length l)) p.budget p.place (message.Prepare txn op)) (el txn op refl)
    (subst (λ (m : TableLimits). Fits (table m w.log (length w.log)) p.budget p.place (message.Prepare txn op)) em a)))
awaits_at w p b d (message.Commit txn) em el eb ep eo a = (subst (λ (x : ParticipantPlace). Fits (table d.limits d.log (length d.log)) b x (message.Commit txn)) ep a)
awaits_at w p b d (message.Abort txn) em el eb ep eo a = (subst (λ (x : ParticipantPlace). Fits (table d.limits d.log (length d.log)) b x (message.Abort txn)) ep a)
awaits_at w p b d (message.Vote txn v) em el eb ep eo a = absurd a
awaits_at w p b d (message.Ack txn) em el eb ep eo a = absurd a
awaits_at w p b d (message.Submit op) em el eb ep eo a = absurd a

pub next_awaited : (limits : TableLimits) (budget : ℕ) (budgets : List ℕ) (core0 : List Stamped) (others : List (List Stamped)) (end : Core0State) (ends : List OtherState) → (h : Computation limits budget budgets core0 others end ends) → NextIsAwaited limits budget budgets core0 others end ends h
next_awaited limits budget budgets core0 others end ends h = record { down = down; up = up }
  where
    left : RunLeft limits budget budgets end ends others h.sent h.taken
    left = run_left limits budget budgets core0 others end ends h

    w : World
    w = left.world

    known : Known limits budget budgets (as_listed left.merged) w
    known = run_known limits budget budgets (as_listed left.merged) w left.run

    inv : Inv w
    inv = run_inv limits budget budgets (as_listed left.merged) w left.run

    none : NoStranger w
    none = run_no_stranger limits budget budgets (as_listed left.merged) w left.run

    down : (i b : ℕ) (g : List Stamped) (d : OtherState) (taken later : List Stamping) (m : Stamping) → slice_get budgets i ≡ Some b → slice_get others i ≡ Some g → slice_get ends i ≡ Some d
        → HistoryOther i b (other_first limits) g d taken → sent_to i h.sent ≡ taken ++ m ∷ later → AwaitsAt b d m.message
    down i b g d taken later m at_b at_g at_d is sent =
        let p = get_at w.peers i (omega (arith, known.cores, slice_get_within budgets i b at_b)) in
        let count : takes_in (slice_index_or others i []) ≡ length taken = ap takes_in (there_or others i g [] at_g) ∙ takes_are i b (other_first limits) d g taken is in
        let rest : rest_down others h.sent i ≡ m ∷ later = ap (λ (n : ℕ). drop n (sent_to i h.sent)) count ∙ (ap (drop (length taken)) sent ∙ drop_front taken (m ∷ later)) in
        let front : p.0.down ≡ m.message ∷ messages later = (left.under_way i p.0 p.1).0 ∙ ap messages rest in
        let ends_as : EndsAs w p.0 d = left.all_end.others i p.0 d p.1 at_d in
        let same_budget : p.0.budget ≡ b = (let x = known.budgets_are i p.0 p.1 in cc (x, at_b)) in
        let newest_log : (txn : ℕ) (op : Op) → m.message ≡ message.Prepare txn op → w.log ≡ d.log =
        λ txn op asks. sym (whole_front d.log w.log ends_as.is_front (sym ends_as.version_is ∙ asked_newest w.limits w.log w.place i p.0 txn op (commitments (messages later)) (ap commitments (front ∙ ap (λ (x : Message). x ∷ messages later) asks)) (inv.pairs i p.0 p.1))) in
        awaits_at w p.0 b d m.message ends_as.limits_are newest_log same_budget ends_as.place_is ends_as.outstanding_is (none.down i p.0 m.message (messages later) p.1 front)

    up : (i : ℕ) (g : List Stamped) (later : List Stamping) (m : Stamping) → slice_get others i ≡ Some g → sent_by g ≡ taken_from i h.taken ++ m ∷ later → Expects end.place end.requests i m.message
    up i g later m at_g sent =
        let p = get_at w.peers i (omega (arith, known.cores, h.cores, slice_get_within others i g at_g)) in
        let rest : rest_up others h.taken i ≡ m ∷ later =
        ap (λ (x : List Stamped). drop (length (taken_from i h.taken)) (sent_by x)) (there_or others i g [] at_g) ∙ (ap (drop (length (taken_from i h.taken))) sent ∙ drop_front (taken_from i h.taken) (m ∷ later)) in
        let front : p.0.up ≡ m.message ∷ messages later = (left.under_way i p.0 p.1).1 ∙ ap messages rest in
        subst (λ (x : CoordinatorPlace). Expects x end.requests i m.message) left.all_end.place_is (subst (λ (r : Requests). Expects w.place r i m.message) left.all_end.requests_are (none.up i p.0 m.message (messages later) p.1 front))
