use Rattle.std.proofs.Common.{append_assoc}
use Rattle.console.proofs.checking.listing_fault_line.Goals as goal

pub returns : goal.returns
returns c = (c.in-Some.ensures.0, simp append_assoc (rw c.in-Some.ensures.1 at c.in_ok-text.ensures.ok))
