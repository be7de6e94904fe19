-- Stamps grow along a history, and what a history sends later has a later stamp.
use Rattle.std.proofs.Common.{◌≡◌, ◌<◌, ◌≤◌, ℕ, zero, suc, Option, Some, None, List, [], ◌∷◌, ◌++◌, refl, ap, sym, ◌∙◌, subst, arith}
use Rattle.std.specs.Prelude.{option_to_list}
use Rattle.monitor_messages.specs.declared.message.Message.{Message}
use Rattle.world_events.specs.declared.event.Event.{Event}
use Rattle.world_events.specs.declared.event.Event.TheVariants.{Start, Submit, StartFor, Take, Rx}
use Rattle.world_events.specs.declared.event.Answer.{Answer}
use Rattle.world_model.specs.Cases.{Outgoing, sent_up}
use Rattle.world_histories.specs.declared.history.Stamped.{Stamped}
use Rattle.world_histories.specs.Histories.{Stamping, Sending, tick, for_entry, with_stamp, sent_to, sent_by, Core0State, Does0, Step0, History0, OtherState, DoesOther, StepOther, HistoryOther}
use Rattle.world_histories.specs.Merging.{core_of}

tick_more : (clock : ℕ) (m : Option Stamping) → clock < tick clock m
tick_more clock None = omega arith
tick_more clock (Some m) = omega arith

pub tick_after : (clock : ℕ) (m : Stamping) → m.stamp < tick clock (Some m)
tick_after clock m = omega arith

-- Core 0

does0_clock : (others budget : ℕ) (c c' : Core0State) (stamp : ℕ) (event : Event) (m : Option Stamping) (answer : Answer) (sent : Outgoing) → Does0 others budget c stamp event m c' answer sent → (c'.clock ≡ stamp) × (core_of event ≡ 0)
does0_clock others budget c c' stamp (Start op) None answer sent h = (ap (λ (x : Core0State). x.clock) h.next, refl)
does0_clock others budget c c' stamp (StartFor (suc i)) None answer sent h = (ap (λ (x : Core0State). x.clock) h.next, refl)
does0_clock others budget c c' stamp (Take zero (suc i) short) (Some m) answer sent h = (ap (λ (x : Core0State). x.clock) h.next, refl)
does0_clock others budget c c' stamp (Rx zero number packet floor) None answer sent h = (ap (λ (x : Core0State). x.clock) h.next, refl)
does0_clock others budget c c' stamp event m answer sent h = absurd h

pub step0_clock : (others budget : ℕ) (c c' : Core0State) (stamp : ℕ) (event : Event) (m : Option Stamping) (answer : Answer) (sent : Outgoing) → Step0 others budget c stamp event m c' answer sent → (c.clock < stamp) × (c'.clock ≡ stamp) × (core_of event ≡ 0)
step0_clock others budget c c' stamp event m answer sent h =
    let d = does0_clock others budget c c' stamp event m answer sent h.does in
    (omega (arith, h.ticks, tick_more c.clock m), d.0, d.1)

-- no event changes the limits
does0_limits : (others budget : ℕ) (c c' : Core0State) (stamp : ℕ) (event : Event) (m : Option Stamping) (answer : Answer) (sent : Outgoing) → Does0 others budget c stamp event m c' answer sent → c'.limits ≡ c.limits
does0_limits others budget c c' stamp (Start op) None answer sent h = ap (λ (x : Core0State). x.limits) h.next
does0_limits others budget c c' stamp (StartFor (suc i)) None answer sent h = ap (λ (x : Core0State). x.limits) h.next
does0_limits others budget c c' stamp (Take zero (suc i) short) (Some m) answer sent h = ap (λ (x : Core0State). x.limits) h.next
does0_limits others budget c c' stamp (Rx zero number packet floor) None answer sent h = ap (λ (x : Core0State). x.limits) h.next
does0_limits others budget c c' stamp event m answer sent h = absurd h

pub step0_limits : (others budget : ℕ) (c c' : Core0State) (stamp : ℕ) (event : Event) (m : Option Stamping) (answer : Answer) (sent : Outgoing) → Step0 others budget c stamp event m c' answer sent → c'.limits ≡ c.limits
step0_limits others budget c c' stamp event m answer sent h = does0_limits others budget c c' stamp event m answer sent h.does

pub later0 : (others budget : ℕ) (c c' : Core0State) (s : Stamped) (rest : List Stamped) (sent : List Sending) (taken : List (ℕ × Stamping)) → History0 others budget c (s ∷ rest) c' sent taken → c.clock < s.stamp
later0 others budget c c' s rest sent taken h = (step0_clock others budget c h.0 s.stamp s.done.event h.1 s.done.answer h.2 h.5).0

-- after an event the next has a later stamp
pub next0 : (others budget : ℕ) (c c' : Core0State) (s t : Stamped) (rest : List Stamped) (sent : List Sending) (taken : List (ℕ × Stamping)) → History0 others budget c (s ∷ t ∷ rest) c' sent taken → s.stamp < t.stamp
next0 others budget c c' s t rest sent taken h =
    let k = step0_clock others budget c h.0 s.stamp s.done.event h.1 s.done.answer h.2 h.5 in
    omega (arith, k.1, later0 others budget h.0 c' t rest h.3 h.4 h.6)

-- the message of these that a list of sendings has first is of this event or a later one
pub record FirstSent (history : List Stamped) (stamp : ℕ) : Type 0 where
  pub first : Stamped
  pub later : List Stamped
  pub is : history ≡ first ∷ later
  pub not_before : first.stamp ≤ stamp

pub first_sent_to : (others budget i : ℕ) (c c' : Core0State) (h : List Stamped) (sent : List Sending) (taken : List (ℕ × Stamping)) (m : Stamping) (ms : List Stamping) → History0 others budget c h c' sent taken → sent_to i sent ≡ m ∷ ms → FirstSent h m.stamp
first_sent_to others budget i c c' [] sent taken m ms h at = absurd (let e = sym (ap (sent_to i) h.1) ∙ at in cc)
first_sent_to others budget i c c' (s ∷ later) sent taken m ms h at =
    by_messages (for_entry i h.2) refl (λ e. first_sent_to others budget i h.0 c' later h.3 h.4 m ms h.6 e)
  where
    whole : with_stamp s.stamp (for_entry i h.2) ++ sent_to i h.3 ≡ m ∷ ms
    whole = sym (ap (sent_to i) h.7) ∙ at

    by_messages : (xs : List Message) → for_entry i h.2 ≡ xs → (sent_to i h.3 ≡ m ∷ ms → FirstSent later m.stamp) → FirstSent (s ∷ later) m.stamp
    by_messages [] e rest =
        let r = rest (sym (ap (λ (ys : List Message). with_stamp s.stamp ys ++ sent_to i h.3) e) ∙ whole) in
        let hist : History0 others budget c (s ∷ r.first ∷ r.later) c' sent taken = subst (λ (x : List Stamped). History0 others budget c (s ∷ x) c' sent taken) r.is h in
        record { first = s; later = later; is = refl; not_before = omega (arith, r.not_before, next0 others budget c c' s r.first r.later sent taken hist) }
    by_messages (x ∷ xs) e rest =
        let w = sym (ap (λ (ys : List Message). with_stamp s.stamp ys ++ sent_to i h.3) e) ∙ whole in
        let same : record { stamp = s.stamp; message = x } ≡ m = cc in
        record { first = s; later = later; is = refl; not_before = omega (arith, ap (λ (y : Stamping). y.stamp) same) }

-- Another core

does_clock : (i budget : ℕ) (c c' : OtherState) (stamp : ℕ) (event : Event) (m : Option Stamping) (answer : Answer) → DoesOther i budget c stamp event m c' answer → (c'.clock ≡ stamp) × (core_of event ≡ suc i)
does_clock i budget c c' stamp (Submit (suc core) op) None answer h = (ap (λ (x : OtherState). x.clock) h.1.next, ap suc h.0)
does_clock i budget c c' stamp (Take (suc to) zero short) (Some m) answer h = (ap (λ (x : OtherState). x.clock) h.1.next, ap suc h.0)
does_clock i budget c c' stamp (Rx (suc core) number packet floor) None answer h = (ap (λ (x : OtherState). x.clock) h.1.next, ap suc h.0)
does_clock i budget c c' stamp event m answer h = absurd h

pub step_clock : (i budget : ℕ) (c c' : OtherState) (stamp : ℕ) (event : Event) (m : Option Stamping) (answer : Answer) → StepOther i budget c stamp event m c' answer → (c.clock < stamp) × (c'.clock ≡ stamp) × (core_of event ≡ suc i)
step_clock i budget c c' stamp event m answer h =
    let d = does_clock i budget c c' stamp event m answer h.does in
    (omega (arith, h.ticks, tick_more c.clock m), d.0, d.1)

does_limits : (i budget : ℕ) (c c' : OtherState) (stamp : ℕ) (event : Event) (m : Option Stamping) (answer : Answer) → DoesOther i budget c stamp event m c' answer → c'.limits ≡ c.limits
does_limits i budget c c' stamp (Submit (suc core) op) None answer h = ap (λ (x : OtherState). x.limits) h.1.next
does_limits i budget c c' stamp (Take (suc to) zero short) (Some m) answer h = ap (λ (x : OtherState). x.limits) h.1.next
does_limits i budget c c' stamp (Rx (suc core) number packet floor) None answer h = ap (λ (x : OtherState). x.limits) h.1.next
does_limits i budget c c' stamp event m answer h = absurd h

pub step_limits : (i budget : ℕ) (c c' : OtherState) (stamp : ℕ) (event : Event) (m : Option Stamping) (answer : Answer) → StepOther i budget c stamp event m c' answer → c'.limits ≡ c.limits
step_limits i budget c c' stamp event m answer h = does_limits i budget c c' stamp event m answer h.does

pub later_other : (i budget : ℕ) (c c' : OtherState) (s : Stamped) (rest : List Stamped) (taken : List Stamping) → HistoryOther i budget c (s ∷ rest) c' taken → c.clock < s.stamp
later_other i budget c c' s rest taken h = (step_clock i budget c h.0 s.stamp s.done.event h.1 s.done.answer h.3).0

pub next_other : (i budget : ℕ) (c c' : OtherState) (s t : Stamped) (rest : List Stamped) (taken : List Stamping) → HistoryOther i budget c (s ∷ t ∷ rest) c' taken → s.stamp < t.stamp
next_other i budget c c' s t rest taken h =
    let k = step_clock i budget c h.0 s.stamp s.done.event h.1 s.done.answer h.3 in
    omega (arith, k.1, later_other i budget h.0 c' t rest h.2 h.4)

pub first_sent_by : (i budget : ℕ) (c c' : OtherState) (h : List Stamped) (taken : List Stamping) (m : Stamping) (ms : List Stamping) → HistoryOther i budget c h c' taken → sent_by h ≡ m ∷ ms → FirstSent h m.stamp
first_sent_by i budget c c' [] taken m ms h at = absurd cc
first_sent_by i budget c c' (s ∷ later) taken m ms h at =
    by_message (sent_up s.done.event s.done.answer) refl (λ e. first_sent_by i budget h.0 c' later h.2 m ms h.4 e)
  where
    by_message : (o : Option Message) → sent_up s.done.event s.done.answer ≡ o → (sent_by later ≡ m ∷ ms → FirstSent later m.stamp) → FirstSent (s ∷ later) m.stamp
    by_message None e rest =
        let r = rest (sym (ap (λ (x : Option Message). with_stamp s.stamp (option_to_list x) ++ sent_by later) e) ∙ at) in
        let hist : HistoryOther i budget c (s ∷ r.first ∷ r.later) c' taken = subst (λ (x : List Stamped). HistoryOther i budget c (s ∷ x) c' taken) r.is h in
        record { first = s; later = later; is = refl; not_before = omega (arith, r.not_before, next_other i budget c c' s r.first r.later taken hist) }
    by_message (Some x) e rest =
        let w = sym (ap (λ (y : Option Message). with_stamp s.stamp (option_to_list y) ++ sent_by later) e) ∙ at in
        let same : record { stamp = s.stamp; message = x } ≡ m = cc in
        record { first = s; later = later; is = refl; not_before = omega (arith, ap (λ (y : Stamping). y.stamp) same) }
