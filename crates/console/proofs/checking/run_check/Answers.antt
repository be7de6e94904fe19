use Rattle.filter_asm.specs.Cleared.{PrintedStands}
use Rattle.filter_asm.proofs.RoundTrip.{stands_for_itself}
use Rattle.console.proofs.CheckingLemmas.{check_once}
use Rattle.console.proofs.checking.run_check.Goals as goal

pub returns-clause-only : goal.returns-clause-only
returns-clause-only g c = check_once c.args.input c.args.asm

pub returns-clause-printed : goal.returns-clause-printed
unfolding PrintedStands
returns-clause-printed g c = stands_for_itself
