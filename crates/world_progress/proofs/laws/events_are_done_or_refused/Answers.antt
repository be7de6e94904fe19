use Rattle.world_progress.proofs.Told.{event_told}
use Rattle.world_progress.proofs.NotRefused.{none_stands}
use Rattle.world_progress.proofs.Once.{stands_once}
use Rattle.world_progress.proofs.laws.events_are_done_or_refused.Goals as goal

pub returns-clause-some : goal.returns-clause-some
returns-clause-some c = event_told

pub returns-clause-one : goal.returns-clause-one
returns-clause-one c = none_stands

pub returns-clause-fault : goal.returns-clause-fault
returns-clause-fault c = stands_once
