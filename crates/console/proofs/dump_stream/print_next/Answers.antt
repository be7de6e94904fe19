use Rattle.std.proofs.Common.{Some, None, refl}
use Rattle.capture_reader.specs.declared.entry.Found.TheVariants.{SeenEntry, Held, Nothing}
use Rattle.console.proofs.CapturedLemmas.{found_held}
use Rattle.console.proofs.DumpStreamLemmas.{print_item, print_stopped, prints_ok, seen_none}
use Rattle.console.proofs.dump_stream.print_next.Goals as goal

pub returns-in-Ok-SeenEntry-clause-prints : goal.returns-in-Ok-SeenEntry-clause-prints
returns-in-Ok-SeenEntry-clause-prints c =
    prints_ok c.print_found.result _ _ (λ seen. print_item c.args.link c.args.stamped c.args.rest.now.now c.next.new.rest.now c.args.feed.now c.next.new.self (SeenEntry c.in-Ok-SeenEntry.item) (Some c.in-Ok-SeenEntry.item) c.args.place.now c.print_found.new.place c.args.text.now.items c.print_found.new.text.items
    (rw c.in-Ok-SeenEntry.field-0-is at c.in-Ok-SeenEntry.ensures.advances) refl seen) c.print_found.ensures

pub returns-in-Ok-Held-clause-prints : goal.returns-in-Ok-Held-clause-prints
returns-in-Ok-Held-clause-prints c =
    prints_ok c.print_found-in-Ok-Held.result _ _ (λ seen. print_item c.args.link c.args.stamped c.args.rest.now.now c.next.new.rest.now c.args.feed.now c.next.new.self Held c.held.result c.args.place.now c.print_found-in-Ok-Held.new.place c.args.text.now.items c.print_found-in-Ok-Held.new.text.items
    (rw c.in-Ok-Held.field-0-is at c.in-Ok-Held.ensures.advances) (found_held c.next.new.self c.held.result c.held.ensures) seen) c.print_found-in-Ok-Held.ensures

pub returns-in-Ok-Nothing-clause-prints : goal.returns-in-Ok-Nothing-clause-prints
returns-in-Ok-Nothing-clause-prints c =
    print_item c.args.link c.args.stamped c.args.rest.now.now c.next.new.rest.now c.args.feed.now c.next.new.self Nothing None c.args.place.now c.args.place.now c.args.text.now.items c.args.text.now.items
    (rw c.in-Ok-Nothing.field-0-is at c.in-Ok-Nothing.ensures.advances) refl (seen_none _ _ _ _)

pub returns-else-is_refusal-clause-prints : goal.returns-else-is_refusal-clause-prints
returns-else-is_refusal-clause-prints c =
    print_stopped c.args.link c.args.stamped c.args.rest.now.now c.next.new.rest.now c.args.feed.now c.next.new.self c.args.place.now c.args.text.now.items c.in-Err.fault c.in-Err.ensures.says c.in-Err.ensures.advances
