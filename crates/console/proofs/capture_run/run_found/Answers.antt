use Rattle.std.proofs.Common.{refl, rules}
use Rattle.console.proofs.LinkLemmas.{sees_none, sees_one}
use Rattle.console.proofs.capture_run.run_found.Goals as goal

pub returns-in_default-clause-links : goal.returns-in_default-clause-links
returns-in_default-clause-links c = λ before are. sees_none before c.args.item c.args.links.now (rw c.in_default.is refl) are

pub returns-in_default-entry-clause-links : goal.returns-in_default-entry-clause-links
returns-in_default-entry-clause-links c = λ before are. sees_one before c.args.item c.in-Some.item.entry c.with_entry.result (rw c.in-Some.is refl) (c.with_entry.ensures before are)

pub returns-then-not-is_link-clause-links : goal.returns-then-not-is_link-clause-links
returns-then-not-is_link-clause-links c = λ before are. sees_none before c.args.item c.args.links.now (rw (c.in-Some.is, c.in-Packet.is) refl) are

pub returns-in-Err-clause-links : goal.returns-in-Err-clause-links
returns-in-Err-clause-links c = λ before are. sees_none before c.args.item c.args.links.now (rw (c.in-Some.is, c.in-Packet.is) refl) are

pub returns-in_err-push-clause-links : goal.returns-in_err-push-clause-links
returns-in_err-push-clause-links c = λ before are. sees_none before c.args.item c.args.links.now (rw (c.in-Some.is, c.in-Packet.is) refl) are

pub returns-in_err-push-2-clause-links : goal.returns-in_err-push-2-clause-links
returns-in_err-push-2-clause-links c = λ before are. sees_none before c.args.item c.args.links.now (rw (c.in-Some.is, c.in-Packet.is) refl) are

pub returns-in_ok-push-2-clause-links : goal.returns-in_ok-push-2-clause-links
returns-in_ok-push-2-clause-links c = λ before are. sees_none before c.args.item c.args.links.now (rw (c.in-Some.is, c.in-Packet.is) refl) are

pub returns-else-stamped-clause-links : goal.returns-else-stamped-clause-links
returns-else-stamped-clause-links c = λ before are. sees_none before c.args.item c.args.links.now (rw (c.in-Some.is, c.in-Packet.is) refl) are
