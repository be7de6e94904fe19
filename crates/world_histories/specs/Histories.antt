-- The histories of cores that ran beside each other, with no common time: each core did what the protocol says, and took the
-- messages of each other in the order in which they were sent. Each event has a stamp of its core's clock, one more than the
-- greater of the clock and the stamp of the message taken (Lamport 1978, "Time, clocks, and the ordering of events in a
-- distributed system", sections "The partial ordering" and "Logical clocks": events of one process are ordered, a receipt comes
-- after its send, and clocks tell so).
use Rattle.std.specs.Prelude.{◌≡◌, ◌+◌, ◌==◌, ℕ, zero, suc, Bool, false, cond, max, Option, Some, None, List, [], ◌∷◌, ◌++◌, length, map, slice_get, option_to_list}
use mathlib.Core.List.{IsPrefix}
use Rattle.filter_table.specs.Limits.{TableLimits}
use Rattle.filter_table.specs.declared.operation.Op.{Op}
use Rattle.filter_table.specs.Tables.{table}
use Rattle.pcap_reader.specs.declared.capture.CapturedPacket.{CapturedPacket}
use Rattle.monitor_messages.specs.declared.message.Message.{Message}
use Rattle.two_phase.specs.declared.step.Step.{Step}
use Rattle.two_phase.specs.Participants.{ParticipantPlace, at_first}
use Rattle.two_phase.specs.Coordinators.{CoordinatorPlace, Requests, no_requests}
use Rattle.world_events.specs.declared.event.Event.{Event}
use Rattle.world_events.specs.declared.event.Event.TheVariants.{Start, Submit, StartFor, Take, Rx}
use Rattle.world_events.specs.declared.event.Answer.{Answer}
use Rattle.world_events.specs.declared.event.Done.{Done}
use Rattle.world_model.specs.Cases.{Outgoing, nothing, to_all, to_one, outgoing, sent_up, joined, ReceivesAt, StartsAt, StartsForAt, SubmitsAt, TakesUpAt, TakesDownAt}
use Rattle.world_model.specs.Worlds.{idle_at_first}
use Rattle.world_histories.specs.declared.history.Stamped.{Stamped}

-- a message with the stamp of the event that sent it
pub record Stamping : Type 0 where
  pub stamp : ℕ
  pub message : Message

abbrev pub unstamped : List Stamped → List Done
unstamped history = map (λ s. s.done) history

-- the stamp of the event that comes next, which takes this message or none
abbrev pub tick : ℕ → Option Stamping → ℕ
tick clock None = clock + 1
tick clock (Some m) = max clock m.stamp + 1

-- What is sent

-- what core 0 sends with one event, with its stamp
pub record Sending : Type 0 where
  pub stamp : ℕ
  pub sent : Outgoing

-- the message of these to the core with this entry
abbrev pub for_entry : ℕ → Outgoing → List Message
for_entry entry nothing = []
for_entry entry (to_all m) = m ∷ []
for_entry entry (to_one receiver m) = cond (receiver == entry) (m ∷ []) []

abbrev pub with_stamp : ℕ → List Message → List Stamping
with_stamp stamp ms = map (λ m. record { stamp = stamp; message = m }) ms

-- the messages of core 0 to the core with this entry
abbrev pub sent_to : ℕ → List Sending → List Stamping
sent_to entry [] = []
sent_to entry (s ∷ later) = with_stamp s.stamp (for_entry entry s.sent) ++ sent_to entry later

-- the messages that another core's history sends to core 0
abbrev pub sent_by : List Stamped → List Stamping
sent_by [] = []
sent_by (s ∷ later) = with_stamp s.stamp (option_to_list (sent_up s.done.event s.done.answer)) ++ sent_by later

-- Core 0 along its history

-- its machine's limits, its clock and place, what it keeps of requests, and what it has committed
pub record Core0State : Type 0 where
  pub limits : TableLimits
  pub clock : ℕ
  pub place : CoordinatorPlace
  pub requests : Requests
  pub log : List Op

abbrev pub core0_first : TableLimits → ℕ → Core0State
core0_first limits others = record { limits = limits; clock = 0; place = idle_at_first; requests = no_requests others; log = [] }

pub record Start0 (others budget : ℕ) (c : Core0State) (stamp : ℕ) (op : Op) (c' : Core0State) (answer : Answer) (sent : Outgoing) : Type 0 where
  pub place : CoordinatorPlace
  pub committed : Option Op
  pub told : Step
  pub here : StartsAt others (table c.limits c.log (length c.log)) budget c.place op place committed told answer
  pub next : c' ≡ record { limits = c.limits; clock = stamp; place = place; requests = c.requests; log = joined c.log committed }
  pub sends : sent ≡ outgoing told place

pub record StartFor0 (others budget : ℕ) (c : Core0State) (stamp : ℕ) (entry : ℕ) (c' : Core0State) (answer : Answer) (sent : Outgoing) : Type 0 where
  pub place : CoordinatorPlace
  pub requests : Requests
  pub committed : Option Op
  pub told : Step
  pub here : StartsForAt others (table c.limits c.log (length c.log)) budget c.place c.requests entry place requests committed told answer
  pub next : c' ≡ record { limits = c.limits; clock = stamp; place = place; requests = requests; log = joined c.log committed }
  pub sends : sent ≡ outgoing told place

pub record Take0 (c : Core0State) (stamp : ℕ) (entry : ℕ) (m : Message) (c' : Core0State) (answer : Answer) (sent : Outgoing) : Type 0 where
  pub place : CoordinatorPlace
  pub requests : Requests
  pub committed : Option Op
  pub told : Step
  pub here : TakesUpAt (table c.limits c.log (length c.log)) c.place c.requests entry m place requests committed told answer
  pub next : c' ≡ record { limits = c.limits; clock = stamp; place = place; requests = requests; log = joined c.log committed }
  pub sends : sent ≡ outgoing told place

pub record Rx0 (c : Core0State) (stamp : ℕ) (packet : CapturedPacket) (floor : ℕ) (c' : Core0State) (answer : Answer) (sent : Outgoing) : Type 0 where
  pub here : ReceivesAt (table c.limits c.log (length c.log)) (length c.log) packet floor answer
  pub next : c' ≡ record c { clock = stamp }
  pub sends : sent ≡ nothing

-- what the event does at core 0, which takes this message with it or none
abbrev pub Does0 : ℕ → ℕ → Core0State → ℕ → Event → Option Stamping → Core0State → Answer → Outgoing → Type 0
Does0 others budget c stamp (Start op) None c' answer sent = Start0 others budget c stamp op c' answer sent
Does0 others budget c stamp (StartFor (suc entry)) None c' answer sent = StartFor0 others budget c stamp entry c' answer sent
Does0 others budget c stamp (Take zero (suc entry) short) (Some m) c' answer sent = Take0 c stamp entry m.message c' answer sent
Does0 others budget c stamp (Rx zero number packet floor) None c' answer sent = Rx0 c stamp packet floor c' answer sent
Does0 others budget c stamp event m c' answer sent = ⊥

-- one event of core 0, with so many other cores and this budget
pub record Step0 (others budget : ℕ) (c : Core0State) (stamp : ℕ) (event : Event) (m : Option Stamping) (c' : Core0State) (answer : Answer) (sent : Outgoing) : Type 0 where
  pub ticks : stamp ≡ tick c.clock m
  pub does : Does0 others budget c stamp event m c' answer sent

-- the message that an event of core 0 takes, with its sender's entry
abbrev pub taking : Event → Option Stamping → List (ℕ × Stamping)
taking (Take to (suc entry) short) (Some m) = (entry, m) ∷ []
taking event m = []

-- from the one to the other by these events, with what they send and take
abbrev pub History0 : ℕ → ℕ → Core0State → List Stamped → Core0State → List Sending → List (ℕ × Stamping) → Type 0
History0 others budget c [] c' sent taken = (c' ≡ c) × (sent ≡ []) × (taken ≡ [])
History0 others budget c (s ∷ later) c' sent taken = (mid : Core0State) × (m : Option Stamping) × (out : Outgoing) × (sent' : List Sending) × (taken' : List (ℕ × Stamping))
    × Step0 others budget c s.stamp s.done.event m mid s.done.answer out × History0 others budget mid later c' sent' taken'
    × (sent ≡ record { stamp = s.stamp; sent = out } ∷ sent') × (taken ≡ taking s.done.event m ++ taken')

-- what was taken of the core with this entry
abbrev pub taken_from : ℕ → List (ℕ × Stamping) → List Stamping
taken_from entry [] = []
taken_from entry (t ∷ later) = cond (t.0 == entry) (t.1 ∷ []) [] ++ taken_from entry later

-- Another core along its history

pub record OtherState : Type 0 where
  pub limits : TableLimits
  pub clock : ℕ
  pub place : ParticipantPlace
  pub outstanding : Bool
  pub log : List Op

abbrev pub other_first : TableLimits → OtherState
other_first limits = record { limits = limits; clock = 0; place = at_first; outstanding = false; log = [] }

pub record SubmitOther (c : OtherState) (stamp : ℕ) (c' : OtherState) (answer : Answer) : Type 0 where
  pub outstanding : Bool
  pub here : SubmitsAt c.outstanding outstanding answer
  pub next : c' ≡ record c { clock = stamp; outstanding = outstanding }

pub record TakeOther (budget : ℕ) (c : OtherState) (stamp : ℕ) (short : Bool) (m : Message) (c' : OtherState) (answer : Answer) : Type 0 where
  pub place : ParticipantPlace
  pub outstanding : Bool
  pub committed : Option Op
  pub here : TakesDownAt short (table c.limits c.log (length c.log)) budget (length c.log) c.place c.outstanding m place outstanding committed answer
  pub next : c' ≡ record { limits = c.limits; clock = stamp; place = place; outstanding = outstanding; log = joined c.log committed }

pub record RxOther (c : OtherState) (stamp : ℕ) (packet : CapturedPacket) (floor : ℕ) (c' : OtherState) (answer : Answer) : Type 0 where
  pub here : ReceivesAt (table c.limits c.log (length c.log)) (length c.log) packet floor answer
  pub next : c' ≡ record c { clock = stamp }

-- what the event does at the core with this entry, which is the core's number less one
abbrev pub DoesOther : ℕ → ℕ → OtherState → ℕ → Event → Option Stamping → OtherState → Answer → Type 0
DoesOther entry budget c stamp (Submit (suc core) op) None c' answer = (core ≡ entry) × SubmitOther c stamp c' answer
DoesOther entry budget c stamp (Take (suc to) zero short) (Some m) c' answer = (to ≡ entry) × TakeOther budget c stamp short m.message c' answer
DoesOther entry budget c stamp (Rx (suc core) number packet floor) None c' answer = (core ≡ entry) × RxOther c stamp packet floor c' answer
DoesOther entry budget c stamp event m c' answer = ⊥

-- one event of the core with this entry and budget
pub record StepOther (entry budget : ℕ) (c : OtherState) (stamp : ℕ) (event : Event) (m : Option Stamping) (c' : OtherState) (answer : Answer) : Type 0 where
  pub ticks : stamp ≡ tick c.clock m
  pub does : DoesOther entry budget c stamp event m c' answer

-- from the one to the other by these events, with what they take
abbrev pub HistoryOther : ℕ → ℕ → OtherState → List Stamped → OtherState → List Stamping → Type 0
HistoryOther entry budget c [] c' taken = (c' ≡ c) × (taken ≡ [])
HistoryOther entry budget c (s ∷ later) c' taken = (mid : OtherState) × (m : Option Stamping) × (taken' : List Stamping)
    × StepOther entry budget c s.stamp s.done.event m mid s.done.answer × HistoryOther entry budget mid later c' taken' × (taken ≡ option_to_list m ++ taken')

-- All cores

-- Core 0 sent and took these. The other core's history ends so; what the two took of each other is the front of what the other sent.
pub record TakesInOrder (entry : ℕ) (limits : TableLimits) (budget : ℕ) (sent : List Sending) (taken0 : List (ℕ × Stamping)) (history : List Stamped) (end : OtherState) : Type 0 where
  pub taken : List Stamping
  pub is_history : HistoryOther entry budget (other_first limits) history end taken
  pub down : IsPrefix taken (sent_to entry sent)
  pub up : IsPrefix (taken_from entry taken0) (sent_by history)

-- Core 0's history and the others' are those of cores with these limits and budgets, which end so, and each of which took the messages that
-- the others sent to it in their order. The log of the whole is what core 0 has committed at its end.
pub record Computation (limits : TableLimits) (budget : ℕ) (budgets : List ℕ) (core0 : List Stamped) (others : List (List Stamped)) (end : Core0State) (ends : List OtherState) : Type 0 where
  pub cores : length others ≡ length budgets
  pub all_end : length ends ≡ length budgets
  pub sent : List Sending
  pub taken : List (ℕ × Stamping)
  pub of_core0 : History0 (length budgets) budget (core0_first limits (length budgets)) core0 end sent taken
  pub of_other : (i b : ℕ) (h : List Stamped) (d : OtherState) → slice_get budgets i ≡ Some b → slice_get others i ≡ Some h → slice_get ends i ≡ Some d → TakesInOrder i limits b sent taken h d
