-- What is kept of the events that are past, to find the senders of messages in linear time.
-- No public clause cites these.
use Rattle.std.specs.Prelude.{◌≡◌, ℕ, ◌+◌, ◌-◌, ◌≤◌, ◌==◌, ◌&&◌, if◌then◌else◌, min, Bool, List, [], ◌∷◌, length, take, filter, Option}
use Rattle.trace_lines.specs.declared.event.TraceEvent.{TraceEvent}
use Rattle.trace_lines.specs.declared.messages.Front.{Front}
use Rattle.trace_lines.specs.declared.messages.State.{State}
use Rattle.trace_lines.specs.Links.{acks, asker, is_between, sent, sent_between, taken, takes}

abbrev pub is_front : ℕ → ℕ → Front → Bool
is_front from to f = f.from == from && f.to == to

-- up to which of all messages those between two cores were taken
abbrev pub front : ℕ → ℕ → List Front → ℕ
front from to [] = 0
front from to (f ∷ fs) = if is_front from to f then f.place else front from to fs

-- what is kept after these events, where so many messages between two cores were taken: as many are before their front
pub record Kept (highest : ℕ) (past : List TraceEvent) (counts : ℕ → ℕ → ℕ) (state : State) : Type 0 where
  pub asker : state.asker ≡ asker past
  pub acks : state.acks ≡ highest - acks past
  pub messages : state.messages.items ≡ sent highest past
  pub within : (from to : ℕ) → front from to state.fronts.items ≤ length state.messages.items
  pub taken : (from to : ℕ) → length (filter (is_between from to) (take (front from to state.fronts.items) state.messages.items)) ≡ counts from to

abbrev pub Follows : ℕ → List TraceEvent → State → Type 0
Follows highest past state = Kept highest past (λ from to. taken highest from to past) state

-- the same where an event has taken its message and sent none yet
abbrev pub HasTaken : ℕ → List TraceEvent → Option (ℕ × ℕ) → State → Type 0
HasTaken highest past ends state = Kept highest past (λ from to.
    if takes from to ends then min (taken highest from to past + 1) (length (sent_between highest from to past)) else taken highest from to past) state
