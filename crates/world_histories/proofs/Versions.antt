-- Histories in two parts, and the versions along them.
use Rattle.std.proofs.Common.{◌≡◌, ◌+◌, ℕ, zero, suc, Bool, true, false, cond, Option, Some, None, List, [], ◌∷◌, ◌++◌, length, refl, ap, sym, ◌∙◌, arith, length-append}
use Rattle.std.specs.Prelude.{is_some, option_to_list}
use Rattle.std.proofs.lemmas.List.Sums.{sum_by-append}
use mathlib.Core.List.{IsPrefix}
use Rattle.filter_table.specs.declared.operation.Op.{Op}
use Rattle.filter_table.specs.Tables.{TableState, table}
use Rattle.monitor_messages.specs.declared.message.Message.{Message}
use Rattle.monitor_messages.specs.declared.message.Message.TheVariants as message
use Rattle.filter_table.specs.declared.decision.Vote.TheVariants as vote
use Rattle.two_phase.specs.declared.step.Step.{Step}
use Rattle.two_phase.specs.Participants.{ParticipantPlace, Answers, commits}
use Rattle.world_events.specs.declared.event.Event.{Event}
use Rattle.world_events.specs.declared.event.Event.TheVariants.{Start, Submit, StartFor, Take, Rx}
use Rattle.world_events.specs.declared.event.Answer.{Answer}
use Rattle.world_events.specs.declared.event.Done.{Done}
use Rattle.world_model.specs.Cases.{Outgoing, joined, start_told, TakesDownAt, Took}
use Rattle.world_model.specs.Readings.{commits_at, version_of}
use Rattle.world_model.proofs.Submissions.{eq_self}
use Rattle.world_histories.specs.declared.history.Stamped.{Stamped}
use Rattle.world_histories.specs.Histories.{Stamping, Sending, unstamped, taking, Core0State, Does0, History0, OtherState, DoesOther, HistoryOther}
use Rattle.world_histories.proofs.Lists.{prefix_self, prefix_then}
use Rattle.world_model.proofs.Moves.{counts_start, counts_start_for, up_counts}

-- Two parts

abbrev pub Split0 : ℕ → ℕ → Core0State → List Stamped → List Stamped → Core0State → Type 0
Split0 others budget c xs ys c' = (mid : Core0State) × (sent : List Sending) × (taken : List (ℕ × Stamping)) × (sent' : List Sending) × (taken' : List (ℕ × Stamping))
    × History0 others budget c xs mid sent taken × History0 others budget mid ys c' sent' taken'

pub split0 : (others budget : ℕ) (c c' : Core0State) (xs ys : List Stamped) (sent : List Sending) (taken : List (ℕ × Stamping)) → History0 others budget c (xs ++ ys) c' sent taken → Split0 others budget c xs ys c'
split0 others budget c c' [] ys sent taken h = (c, [], [], sent, taken, (refl, refl, refl), h)
split0 others budget c c' (x ∷ xs) ys sent taken h =
    let r = split0 others budget h.0 c' xs ys h.3 h.4 h.6 in
    (r.0, record { stamp = x.stamp; sent = h.2 } ∷ r.1, taking x.done.event h.1 ++ r.2, r.3, r.4, (h.0, h.1, h.2, r.1, r.2, h.5, r.5, refl, refl), r.6)

abbrev pub SplitOther : ℕ → ℕ → OtherState → List Stamped → List Stamped → OtherState → Type 0
SplitOther i budget c xs ys c' = (mid : OtherState) × (taken : List Stamping) × (taken' : List Stamping) × HistoryOther i budget c xs mid taken × HistoryOther i budget mid ys c' taken'

pub split_other : (i budget : ℕ) (c c' : OtherState) (xs ys : List Stamped) (taken : List Stamping) → HistoryOther i budget c (xs ++ ys) c' taken → SplitOther i budget c xs ys c'
split_other i budget c c' [] ys taken h = (c, [], taken, (refl, refl), h)
split_other i budget c c' (x ∷ xs) ys taken h =
    let r = split_other i budget h.0 c' xs ys h.2 h.4 in
    (r.0, option_to_list h.1 ++ r.1, r.2, (h.0, h.1, r.1, h.3, r.3, refl), r.4)

-- What a history commits

-- by one event the log grows by what is committed, which the event's answer tells
pub record Grown (core : ℕ) (log : List Op) (event : Event) (answer : Answer) (log' : List Op) : Type 0 where
  pub is_front : IsPrefix log log'
  pub counted : length log' ≡ length log + cond (commits_at core event answer) 1 0

grown_by : (core : ℕ) (log : List Op) (event : Event) (answer : Answer) (committed : Option Op) → is_some committed ≡ commits_at core event answer → Grown core log event answer (joined log committed)
grown_by core log event answer None e = record { is_front = prefix_self log; counted = rw (← e) (omega arith) }
grown_by core log event answer (Some op) e = record { is_front = (op ∷ [], refl); counted = rw (← e) (omega (arith, length-append log (op ∷ []))) }

same_log : (core : ℕ) (log : List Op) (event : Event) (answer : Answer) → commits_at core event answer ≡ false → Grown core log event answer log
same_log core log event answer e = grown_by core log event answer None (sym e)

grown0 : (others budget : ℕ) (c c' : Core0State) (stamp : ℕ) (event : Event) (m : Option Stamping) (answer : Answer) (sent : Outgoing) → Does0 others budget c stamp event m c' answer sent → Grown 0 c.log event answer c'.log
grown0 others budget c c' stamp (Start op) None answer sent h =
    rw h.next (grown_by 0 c.log (Start op) answer h.committed (counts_start op _ _ _ _ _ _ _ _ h.here.starts ∙ ap (commits_at 0 (Start op)) (sym h.here.is_answer)))
grown0 others budget c c' stamp (StartFor (suc i)) None answer sent h =
    rw h.next (grown_by 0 c.log (StartFor (suc i)) answer h.committed
    (counts_start_for (suc i) _ _ _ _ _ _ _ _ h.here.starts.starts ∙ (ap (λ (t : Step). commits_at 0 (StartFor (suc i)) (start_told t.txn t.decided)) (sym h.here.starts.tells) ∙ ap (commits_at 0 (StartFor (suc i))) (sym h.here.is_answer))))
grown0 others budget c c' stamp (Take zero (suc i) short) (Some m) answer sent h =
    rw h.next (grown_by 0 c.log (Take 0 (suc i) short) answer h.committed (up_counts i short _ c.place h.place c.requests h.requests m.message h.committed h.told answer h.here).0)
grown0 others budget c c' stamp (Rx zero number packet floor) None answer sent h = rw h.next (same_log 0 c.log (Rx 0 number packet floor) answer (rw h.here.is_answer refl))
grown0 others budget c c' stamp event m answer sent h = absurd h

-- where a core has voted Yes it holds the operation
abbrev pub Held : ParticipantPlace → Type 0
Held place = place.voted ≡ Some vote.Yes → is_some place.staged ≡ true

-- the event of another core also keeps this
pub record GrownOther (i : ℕ) (c : OtherState) (event : Event) (answer : Answer) (c' : OtherState) : Type 0 where
  pub grown : Grown (suc i) c.log event answer c'.log
  pub held : Held c'.place

took_grown : (i : ℕ) (short : Bool) (s : TableState) (b version : ℕ) (log : List Op) (place place' : ParticipantPlace) (m reply : Message) (answer : Answer) → Held place → Answers short s b place m place' reply → Took m reply version answer
    → Grown (suc i) log (Take (suc i) 0 short) answer (joined log (commits place m)) × Held place'
took_grown i short s b version log place place' (message.Prepare txn op) (message.Vote txn' v) answer held a t = rw t (
  same_log (suc i) log _ _ refl,
  λ yes.
      (let e : v ≡ vote.Yes = (let n = sym (ap (λ (p : ParticipantPlace). p.voted) a.3) ∙ yes in cc) in
      ap (λ (p : ParticipantPlace). is_some p.staged) a.3 ∙ rw e refl),
)
took_grown i short s b version log place place' (message.Commit txn) (message.Ack txn') answer held a t = rw t (
  grown_by (suc i) log _ _ place.staged (held a.0 ∙ sym (eq_self (suc i))),
  λ yes. absurd (let n = sym (ap (λ (p : ParticipantPlace). p.voted) a.2) ∙ yes in cc),
)
took_grown i short s b version log place place' (message.Abort txn) (message.Ack txn') answer held a t = rw t (
  same_log (suc i) log _ _ refl,
  λ yes. absurd (let n = sym (ap (λ (p : ParticipantPlace). p.voted) a.2) ∙ yes in cc),
)
took_grown i short s b version log place place' m reply answer held a t = absurd a

takes_grown : (i : ℕ) (short : Bool) (s : TableState) (b version : ℕ) (log : List Op) (place place' : ParticipantPlace) (out out' : Bool) (m : Message) (committed : Option Op) (answer : Answer) → Held place → TakesDownAt short s b version place out m place' out' committed answer
    → Grown (suc i) log (Take (suc i) 0 short) answer (joined log committed) × Held place'
takes_grown i short s b version log place place' out out' (message.Reply d) committed answer held h = rw (h.none_committed, h.is_answer, h.same_place) (same_log (suc i) log _ _ refl, held)
takes_grown i short s b version log place place' out out' (message.Prepare txn op) committed answer held h = rw h.is_committed (took_grown i short s b _ log place place' (message.Prepare txn op) h.reply answer held h.answers h.is_answer)
takes_grown i short s b version log place place' out out' (message.Commit txn) committed answer held h = rw h.is_committed (took_grown i short s b _ log place place' (message.Commit txn) h.reply answer held h.answers h.is_answer)
takes_grown i short s b version log place place' out out' (message.Abort txn) committed answer held h = rw h.is_committed (took_grown i short s b _ log place place' (message.Abort txn) h.reply answer held h.answers h.is_answer)
takes_grown i short s b version log place place' out out' (message.Vote txn v) committed answer held h = absurd h.answers
takes_grown i short s b version log place place' out out' (message.Ack txn) committed answer held h = absurd h.answers
takes_grown i short s b version log place place' out out' (message.Submit op) committed answer held h = absurd h.answers

take_grown : (i budget : ℕ) (c c' : OtherState) (stamp to : ℕ) (short : Bool) (m : Option Stamping) (answer : Answer) → to ≡ i → Held c.place → DoesOther i budget c stamp (Take (suc to) 0 short) m c' answer → GrownOther i c (Take (suc to) 0 short) answer c'
take_grown i budget c c' stamp to short None answer e held h = absurd h
take_grown i budget c c' stamp to short (Some m) answer e held h =
    let t = takes_grown i short (table c.limits c.log (length c.log)) budget (length c.log) c.log c.place h.1.place c.outstanding h.1.outstanding m.message h.1.committed answer held h.1.here in
    rw (h.1.next, e) (record { grown = t.0; held = t.1 })

grown_other : (i budget : ℕ) (c c' : OtherState) (stamp : ℕ) (event : Event) (m : Option Stamping) (answer : Answer) → Held c.place → DoesOther i budget c stamp event m c' answer → GrownOther i c event answer c'
grown_other i budget c c' stamp (Submit (suc core) op) None answer held h = rw h.1.next (record { grown = same_log (suc i) c.log (Submit (suc core) op) answer refl; held = held })
grown_other i budget c c' stamp (Take (suc to) zero short) (Some m) answer held h = take_grown i budget c c' stamp to short (Some m) answer h.0 held h
grown_other i budget c c' stamp (Rx (suc core) number packet floor) None answer held h = rw h.1.next (record { grown = same_log (suc i) c.log (Rx (suc core) number packet floor) answer refl; held = held })
grown_other i budget c c' stamp event m answer held h = absurd h

-- Along a history

version_of-cons : (core : ℕ) (s : Stamped) (later : List Stamped) → version_of core (unstamped (s ∷ later)) ≡ cond (commits_at core s.done.event s.done.answer) 1 0 + version_of core (unstamped later)
version_of-cons core s later = omega (arith, sum_by-append (λ (d : Done). cond (commits_at core d.event d.answer) 1 0) (s.done ∷ []) (unstamped later))

-- a log at two points of a history
pub record Path (core : ℕ) (log : List Op) (history : List Stamped) (log' : List Op) : Type 0 where
  pub is_front : IsPrefix log log'
  pub counted : length log' ≡ length log + version_of core (unstamped history)

path_more : (core : ℕ) (log mid log' : List Op) (s : Stamped) (later : List Stamped) → Grown core log s.done.event s.done.answer mid → Path core mid later log' → Path core log (s ∷ later) log'
path_more core log mid log' s later g p = record { is_front = prefix_then log mid log' g.is_front p.is_front; counted = omega (arith, g.counted, p.counted, version_of-cons core s later) }

pub path0 : (others budget : ℕ) (c c' : Core0State) (h : List Stamped) (sent : List Sending) (taken : List (ℕ × Stamping)) → History0 others budget c h c' sent taken → Path 0 c.log h c'.log
path0 others budget c c' [] sent taken h = rw h.0 (record { is_front = prefix_self c.log; counted = omega arith })
path0 others budget c c' (s ∷ later) sent taken h =
    path_more 0 c.log h.0.log c'.log s later (grown0 others budget c h.0 s.stamp s.done.event h.1 s.done.answer h.2 h.5.does) (path0 others budget h.0 c' later h.3 h.4 h.6)

pub path_other : (i budget : ℕ) (c c' : OtherState) (h : List Stamped) (taken : List Stamping) → Held c.place → HistoryOther i budget c h c' taken → Path (suc i) c.log h c'.log × Held c'.place
path_other i budget c c' [] taken held h = rw h.0 (record { is_front = prefix_self c.log; counted = omega arith }, held)
path_other i budget c c' (s ∷ later) taken held h =
    let g = grown_other i budget c h.0 s.stamp s.done.event h.1 s.done.answer held h.3.does in
    let r = path_other i budget h.0 c' later h.2 g.held h.4 in
    (path_more (suc i) c.log h.0.log c'.log s later g.grown r.0, r.1)
