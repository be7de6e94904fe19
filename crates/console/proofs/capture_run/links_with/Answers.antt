use Rattle.std.proofs.Common.{refl}
use Rattle.console.proofs.LinkLemmas.{sees_none, sees_one}
use Rattle.console.proofs.capture_run.links_with.Goals as goal

pub returns-in-Some : goal.returns-in-Some
returns-in-Some c = λ before are. sees_one before c.args.item c.in-Some.item.entry c.with_entry.result (rw c.in-Some.is refl) (c.with_entry.ensures before are)

pub returns-in-None : goal.returns-in-None
returns-in-None c = λ before are. sees_none before c.args.item c.args.links (rw c.in-None.is refl) are
