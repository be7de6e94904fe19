use Rattle.std.proofs.Common.{◌≡◌, ◌≤◌, length}
use Rattle.console.specs.Running.{RunsTo}
use Rattle.console.specs.Streaming.{LinesRan}
use Rattle.console.specs.Programs.{programs_of}
use Rattle.console.proofs.line_feed.LineFeed.run_piece.Given as goal

abbrev pub invariant-loop-end : goal.invariant-loop-end
invariant-loop-end l = record {
  runs : RunsTo (LinesRan (programs_of l.filter)) (LinesRan (programs_of l.filter)) l.piece l.rest l.fn.self l.self l.initial.outcomes.items l.outcomes.items;
  within : length l.rest ≤ length l.piece;
  link : l.self.link ≡ l.fn.self.link;
}

abbrev pub decreases-loop-end : goal.decreases-loop-end
decreases-loop-end l = length l.rest
