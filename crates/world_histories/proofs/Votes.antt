-- A core votes once on each number, so that a vote in a front of its history is its vote.
use Rattle.std.proofs.Common.{◌≡◌, ◌+◌, ◌≤◌, ◌⊎◌, ◌==◌, inl, inr, ℕ, zero, suc, Bool, true, false, cond, Option, Some, None, List, [], ◌∷◌, ◌++◌, refl, ap, sym, ◌∙◌, subst, arith}
use Rattle.std.specs.Prelude.{◌&&◌}
use Rattle.std.proofs.lemmas.List.{map-append}
use mathlib.Core.List.{IsPrefix}
use Rattle.filter_table.specs.Limits.{TableLimits}
use Rattle.filter_table.specs.declared.operation.Op.{Op}
use Rattle.filter_table.specs.Tables.{TableState}
use Rattle.monitor_messages.specs.declared.message.Message.{Message}
use Rattle.monitor_messages.specs.declared.message.Message.TheVariants as message
use Rattle.filter_table.specs.declared.decision.Vote.{Vote}
use Rattle.two_phase.specs.Participants.{ParticipantPlace, Answers}
use Rattle.world_events.specs.declared.event.Event.{Event}
use Rattle.world_events.specs.declared.event.Event.TheVariants.{Submit, Take, Rx}
use Rattle.world_events.specs.declared.event.Answer.{Answer}
use Rattle.world_events.specs.declared.event.Answer.TheVariants.{TookPrepare}
use Rattle.world_events.specs.declared.event.Done.{Done}
use Rattle.world_model.specs.Cases.{TakesDownAt, Took}
use Rattle.world_model.specs.Readings.{vote_with, vote_after, vote_of}
use Rattle.world_model.proofs.Lists.{same_or_not}
use Rattle.world_model.proofs.Submissions.{eq_other}
use Rattle.world_histories.specs.declared.history.Stamped.{Stamped}
use Rattle.world_histories.specs.Histories.{Stamping, unstamped, OtherState, other_first, DoesOther, HistoryOther}
use Rattle.world_histories.proofs.Versions.{split_other}

-- the event says nothing of the number, or it is the vote on it, the first after the core's last number
record Voting (core txn : ℕ) (event : Event) (answer : Answer) (last last' : ℕ) : Type 0 where
  grows : last ≤ last'
  by_vote : ((known : Option Vote) → vote_with core txn known event answer ≡ known) ⊎ ((txn ≡ last + 1) × (last' ≡ txn))

silent_vote : (core txn : ℕ) (event : Event) (answer : Answer) (last last' : ℕ) → last' ≡ last → ((known : Option Vote) → vote_with core txn known event answer ≡ known) → Voting core txn event answer last last'
silent_vote core txn event answer last last' e silent = record { grows = omega (arith, e); by_vote = inl silent }

none_said : (known : Option Vote) (v : Vote) (here : Bool) → cond (here && false) (Some v) known ≡ known
none_said known v true = refl
none_said known v false = refl

took_voting : (core txn to : ℕ) (short : Bool) (s : TableState) (b version : ℕ) (place place' : ParticipantPlace) (m reply : Message) (answer : Answer) → Answers short s b place m place' reply → Took m reply version answer → Voting core txn (Take to 0 short) answer place.last place'.last
took_voting core txn to short s b version place place' (message.Prepare n op) (message.Vote n' v) answer a t = rw t (by_number (same_or_not n txn))
  where
    last_is : place'.last ≡ n
    last_is = ap (λ (p : ParticipantPlace). p.last) a.3

    by_number : ((n ≡ txn) ⊎ (n ≡ txn → ⊥)) → Voting core txn (Take to 0 short) (TookPrepare n v) place.last place'.last
    by_number (inl e) = record { grows = omega (arith, last_is, a.1); by_vote = inr (omega (arith, a.1, e), last_is ∙ e) }
    by_number (inr ne) = record { grows = omega (arith, last_is, a.1); by_vote = inl (λ known. ap (λ (x : Bool). cond ((to == core) && x) (Some v) known) (eq_other n txn ne) ∙ none_said known v (to == core)) }
took_voting core txn to short s b version place place' (message.Commit n) (message.Ack n') answer a t = rw t (silent_vote core txn _ _ place.last place'.last (ap (λ (p : ParticipantPlace). p.last) a.2 ∙ a.1) (λ known. refl))
took_voting core txn to short s b version place place' (message.Abort n) (message.Ack n') answer a t = rw t (silent_vote core txn _ _ place.last place'.last (ap (λ (p : ParticipantPlace). p.last) a.2 ∙ a.1) (λ known. refl))
took_voting core txn to short s b version place place' m reply answer a t = absurd a

takes_voting : (core txn to : ℕ) (short : Bool) (s : TableState) (b version : ℕ) (place place' : ParticipantPlace) (out out' : Bool) (m : Message) (committed : Option Op) (answer : Answer) → TakesDownAt short s b version place out m place' out' committed answer
    → Voting core txn (Take to 0 short) answer place.last place'.last
takes_voting core txn to short s b version place place' out out' (message.Reply d) committed answer h = rw h.is_answer (silent_vote core txn _ _ place.last place'.last (ap (λ (p : ParticipantPlace). p.last) h.same_place) (λ known. refl))
takes_voting core txn to short s b version place place' out out' (message.Prepare n op) committed answer h = took_voting core txn to short s b _ place place' (message.Prepare n op) h.reply answer h.answers h.is_answer
takes_voting core txn to short s b version place place' out out' (message.Commit n) committed answer h = took_voting core txn to short s b _ place place' (message.Commit n) h.reply answer h.answers h.is_answer
takes_voting core txn to short s b version place place' out out' (message.Abort n) committed answer h = took_voting core txn to short s b _ place place' (message.Abort n) h.reply answer h.answers h.is_answer
takes_voting core txn to short s b version place place' out out' (message.Vote n v) committed answer h = absurd h.answers
takes_voting core txn to short s b version place place' out out' (message.Ack n) committed answer h = absurd h.answers
takes_voting core txn to short s b version place place' out out' (message.Submit op) committed answer h = absurd h.answers

step_voting : (core txn i budget : ℕ) (c c' : OtherState) (stamp : ℕ) (event : Event) (m : Option Stamping) (answer : Answer) → DoesOther i budget c stamp event m c' answer → Voting core txn event answer c.place.last c'.place.last
step_voting core txn i budget c c' stamp (Submit (suc k) op) None answer h = rw h.1.next (silent_vote core txn (Submit (suc k) op) answer c.place.last c.place.last refl (λ known. refl))
step_voting core txn i budget c c' stamp (Take (suc to) zero short) (Some m) answer h = rw h.1.next (takes_voting core txn (suc to) short _ budget _ c.place h.1.place c.outstanding h.1.outstanding m.message h.1.committed answer h.1.here)
step_voting core txn i budget c c' stamp (Rx (suc k) number packet floor) None answer h = rw h.1.next (silent_vote core txn (Rx (suc k) number packet floor) answer c.place.last c.place.last refl (λ known. refl))
step_voting core txn i budget c c' stamp event m answer h = absurd h

-- what the core has voted on is after it
votes_behind : (core txn i budget : ℕ) (c c' : OtherState) (h : List Stamped) (taken : List Stamping) (known : Option Vote) → HistoryOther i budget c h c' taken → ((v : Vote) → known ≡ Some v → txn ≤ c.place.last)
    → (v : Vote) → vote_after core txn known (unstamped h) ≡ Some v → txn ≤ c'.place.last
votes_behind core txn i budget c c' [] taken known h behind v e = rw h.0 (behind v e)
votes_behind core txn i budget c c' (s ∷ later) taken known h behind v e =
    let t = step_voting core txn i budget c h.0 s.stamp s.done.event h.1 s.done.answer h.3.does in
    votes_behind core txn i budget h.0 c' later h.2 (vote_with core txn known s.done.event s.done.answer) h.4 (next t.grows t.by_vote) v e
  where
    next : c.place.last ≤ h.0.place.last → (((k : Option Vote) → vote_with core txn k s.done.event s.done.answer ≡ k) ⊎ ((txn ≡ c.place.last + 1) × (h.0.place.last ≡ txn))) → (x : Vote) → vote_with core txn known s.done.event s.done.answer ≡ Some x → txn ≤ h.0.place.last
    next grows (inl silent) x is = omega (arith, grows, behind x (sym (silent known) ∙ is))
    next grows (inr now) x is = omega (arith, now.1)

-- no vote comes on a number that is behind
votes_still : (core txn i budget : ℕ) (c c' : OtherState) (h : List Stamped) (taken : List Stamping) (known : Option Vote) → HistoryOther i budget c h c' taken → txn ≤ c.place.last → vote_after core txn known (unstamped h) ≡ known
votes_still core txn i budget c c' [] taken known h le = refl
votes_still core txn i budget c c' (s ∷ later) taken known h le =
    let t = step_voting core txn i budget c h.0 s.stamp s.done.event h.1 s.done.answer h.3.does in
    votes_still core txn i budget h.0 c' later h.2 (vote_with core txn known s.done.event s.done.answer) h.4 (omega (arith, le, t.grows)) ∙ same t.by_vote
  where
    same : (((k : Option Vote) → vote_with core txn k s.done.event s.done.answer ≡ k) ⊎ ((txn ≡ c.place.last + 1) × (h.0.place.last ≡ txn))) → vote_with core txn known s.done.event s.done.answer ≡ known
    same (inl silent) = silent known
    same (inr now) = absurd (omega (arith, le, now.0))

vote_after-parts : (core txn : ℕ) (known : Option Vote) (xs ys : List Done) → vote_after core txn known (xs ++ ys) ≡ vote_after core txn (vote_after core txn known xs) ys
vote_after-parts core txn known [] ys = refl
vote_after-parts core txn known (x ∷ xs) ys = vote_after-parts core txn (vote_with core txn known x.event x.answer) xs ys

pub voted_in : (limits : TableLimits) (core txn i budget : ℕ) (end : OtherState) (h front : List Stamped) (taken : List Stamping) (v : Vote) → HistoryOther i budget (other_first limits) h end taken → IsPrefix front h → vote_of core txn (unstamped front) ≡ Some v → vote_of core txn (unstamped h) ≡ Some v
voted_in limits core txn i budget end h front taken v hist f e =
    let whole : HistoryOther i budget (other_first limits) (front ++ f.0) end taken = subst (λ (xs : List Stamped). HistoryOther i budget (other_first limits) xs end taken) (sym f.1) hist in
    let s = split_other i budget (other_first limits) end front f.0 taken whole in
    let behind = votes_behind core txn i budget (other_first limits) s.0 front s.1 None s.3 (λ x none. absurd (cc)) v e in
    ap (λ (xs : List Stamped). vote_of core txn (unstamped xs)) (sym f.1)
    ∙ (ap (vote_of core txn) (map-append (λ (x : Stamped). x.done) front f.0)
    ∙ (vote_after-parts core txn None (unstamped front) (unstamped f.0) ∙ (votes_still core txn i budget s.0 end f.0 s.2 (vote_of core txn (unstamped front)) s.4 behind ∙ e)))
