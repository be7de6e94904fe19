-- The table of core 0 between its steps.
use Rattle.std.proofs.Common.{◌≡◌, Option, None, Some, List, length, refl, sym}
use Rattle.filter_table.specs.Limits.{TableLimits}
use Rattle.filter_table.specs.declared.operation.Op.{Op}
use Rattle.filter_table.specs.Tables.{table}
use Rattle.filter_table.proofs.Tables.{table_next}
use Rattle.monitor_2pc.specs.Places.{after_commit}
use Rattle.two_phase.specs.Coordinators.{Phase, Idle, Voting, Acking, StagedByPhase}
use Rattle.world_model.specs.Cases.{joined}

-- the newest table once this is committed, if anything is
pub table_joined : (limits : TableLimits) (log : List Op) (committed : Option Op) → after_commit (table limits log (length log)) committed ≡ table limits (joined log committed) (length (joined log committed))
table_joined limits log None = refl
table_joined limits log (Some op) = sym (table_next limits log op)

-- where core 0 is idle, nothing is staged
pub idle_phase : (phase : Phase) (staged : Option Op) → phase ≡ Idle → StagedByPhase phase staged → staged ≡ None
idle_phase Idle staged e h = h
idle_phase (Voting votes) staged e h = absurd cc
idle_phase (Acking acks) staged e h = absurd cc
