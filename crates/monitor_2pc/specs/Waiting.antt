-- What core 0's fields say of the phase.
-- No public clause cites these.
use Rattle.std.specs.Prelude.{◌≡◌, ℕ, Bool, List, Option, None}
use Rattle.filter_table.specs.declared.decision.Vote.{Vote}
use Rattle.filter_table.specs.declared.decision.Decision.{Decision}
use Rattle.monitor_2pc.specs.declared.coordinator.Wait.{Wait}
use Rattle.monitor_2pc.specs.declared.coordinator.Wait.TheVariants.{Nothing, Votes, Acks}
use Rattle.two_phase.specs.Coordinators.{Phase, Idle, Voting, Acking}

abbrev pub phase_of : Wait → List (Option Vote) → List Bool → Phase
phase_of Nothing votes acks = Idle
phase_of Votes votes acks = Voting votes
phase_of Acks votes acks = Acking acks

-- no core's request is under way while core 0 is idle, and nothing is decided before the last vote
abbrev pub KeepsDecided : Wait → Option ℕ → Option Decision → Type 0
KeepsDecided Nothing asker decided = (asker ≡ None) × (decided ≡ None)
KeepsDecided Votes asker decided = decided ≡ None
KeepsDecided Acks asker decided = Unit {0}
