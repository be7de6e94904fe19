use Rattle.std.proofs.Common.{◌≡◌, ◌+◌, ◌<◌, ◌^◌, length, string_bytes, false}
use Rattle.console.specs.Views.{shown_at_once}
use Rattle.console.proofs.PrintingLemmas.{Printing}
use Rattle.console.proofs.output.write_outcomes.Given as goal

abbrev pub invariant-loop-outcome : goal.invariant-loop-outcome
invariant-loop-outcome g l = record {
  few : l.number + length l.rest < 2 ^ 64;
  good : l.writer.failed ≡ false;
  printing : Printing (shown_at_once l.view l.fn.before l.fn.stamps l.outcomes) (shown_at_once l.view l.number l.times l.rest) g.W.Write.contents l.initial.writer l.writer (string_bytes l.text);
}

abbrev pub decreases-loop-outcome : goal.decreases-loop-outcome
decreases-loop-outcome g l = length l.rest
