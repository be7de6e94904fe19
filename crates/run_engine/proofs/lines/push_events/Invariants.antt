use Rattle.std.proofs.Common.{◌≡◌, ◌++◌, drop, string_bytes}
use Rattle.std.specs.List.{flat_map}
use Rattle.sim_lines.specs.Events.{done_line}
use Rattle.core_machine.specs.Merges.{shown_list}
use Rattle.run_engine.proofs.lines.push_events.Given as goal

abbrev pub invariant-loop-event : goal.invariant-loop-event
invariant-loop-event l = string_bytes l.text ++ flat_map done_line (shown_list (drop l.event-index l.events)) ≡ string_bytes l.fn.text ++ flat_map done_line (shown_list l.events)
