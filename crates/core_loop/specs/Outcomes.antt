-- What an attempt at an event comes to: the event, nothing to do, or a reason why it is not done now.
-- No public clause cites these.
use Rattle.std.specs.Prelude.{Option, Some, None, Result, Ok, Err}
use Rattle.world_histories.specs.declared.history.Stamped.{Stamped}

-- of the event, if there is one
abbrev pub OnEvent : {E : Type 0} → Result (Option Stamped) E → (Stamped → Type 0) → Type 0
OnEvent (Ok (Some s)) P = P s
OnEvent (Ok None) P = Unit {0}
OnEvent (Err e) P = Unit {0}

-- where there is none
abbrev pub OnNone : {E : Type 0} → Result (Option Stamped) E → Type 0 → Type 0
OnNone (Ok (Some s)) P = Unit {0}
OnNone (Ok None) P = P
OnNone (Err e) P = P

-- where there is nothing to do
abbrev pub OnIdle : {E : Type 0} → Result (Option Stamped) E → Type 0 → Type 0
OnIdle (Ok (Some s)) P = Unit {0}
OnIdle (Ok None) P = P
OnIdle (Err e) P = Unit {0}

-- what a call comes to that puts its event, if it does one, into a place that was empty
abbrev pub outcome : {E : Type 0} → Result (Unit {0}) E → Option Stamped → Result (Option Stamped) E
outcome (Ok done) event = Ok event
outcome (Err e) event = Err e
