use Rattle.world_progress.proofs.SameRuns.{happens_once, runs_same}
use Rattle.world_progress.proofs.laws.answers_follow_from_events.Goals as goal

pub returns-clause-event : goal.returns-clause-event
returns-clause-event c = happens_once

pub returns-clause-runs : goal.returns-clause-runs
returns-clause-runs c = runs_same
