use Rattle.std.proofs.Common.{◌≡◌, ◌++◌, drop}
use Rattle.core_machine.specs.Merges.{shown_list}
use Rattle.core_machine.proofs.merging.copy_listed.Given as goal

abbrev pub invariant-loop-event : goal.invariant-loop-event
invariant-loop-event l = l.copies.items ++ shown_list (drop l.event-index l.events) ≡ shown_list l.events
