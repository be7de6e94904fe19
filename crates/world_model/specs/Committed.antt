-- The operations that were committed, read off the events with their answers, so that what is said of them needs no word of the
-- protocol that agreed on them (Baumann et al. 2009, "The Multikernel", section 3.3: replicated state is kept consistent by agreement).
use Rattle.std.specs.Prelude.{◌==◌, ◌++◌, ℕ, Bool, true, false, if◌then◌else◌, Option, Some, None, List, [], option_to_list, fold}
use Rattle.filter_table.specs.declared.operation.Op.{Op}
use Rattle.world_events.specs.declared.event.Event.{Event}
use Rattle.world_events.specs.declared.event.Event.TheVariants.{Start, Submit, StartFor}
use Rattle.world_events.specs.declared.event.Done.{Done}
use Rattle.world_model.specs.Readings.{commits_at}

-- what events tell: the operation that each core submitted last, the one that core 0 started last, and those committed, in order
pub record Told : Type 0 where
  pub submitted : ℕ → Option Op
  pub started : Option Op
  pub committed : List Op

abbrev pub nothing_told : Told
nothing_told = record { submitted = λ core. None; started = None; committed = [] }

-- a core submits an operation; core 0 starts one of its own, or the one that a core submitted last
abbrev pub asked : Told → Event → Told
asked told (Submit from op) = record told { submitted = λ core. if from == core then Some op else told.submitted core }
asked told (Start op) = record told { started = Some op }
asked told (StartFor core) = record told { started = told.submitted core }
asked told event = told

-- where core 0 commits, it commits the operation that it started last
abbrev pub committing : Bool → Told → Told
committing true told = record told { committed = told.committed ++ option_to_list told.started }
committing false told = told

abbrev pub told_with : Told → Done → Told
told_with told done = committing (commits_at 0 done.event done.answer) (asked told done.event)

-- the operations that were committed in these events, in order
abbrev pub log_of : List Done → List Op
log_of events = (fold told_with nothing_told events).committed
