use Rattle.std.proofs.Common.{Some, None, refl, sym, append-nil}
use Rattle.capture_reader.specs.declared.entry.Found.TheVariants.{SeenEntry, Held, Nothing}
use Rattle.console.proofs.CapturedLemmas.{found_held, keep_item, keep_stopped, keeps_ok}
use Rattle.console.proofs.captured.keep_next.Goals as goal

pub returns-in-Ok-SeenEntry-clause-keeps : goal.returns-in-Ok-SeenEntry-clause-keeps
returns-in-Ok-SeenEntry-clause-keeps c =
    keeps_ok c.keep_found.result _ _ (λ pushed. keep_item c.args.rest.now.now c.next.new.rest.now c.args.feed.now c.next.new.self (SeenEntry c.in-Ok-SeenEntry.item) (Some c.in-Ok-SeenEntry.item) c.args.entries.now.items c.keep_found.new.entries.items
    (rw c.in-Ok-SeenEntry.field-0-is at c.in-Ok-SeenEntry.ensures.advances) refl pushed) c.keep_found.ensures

pub returns-in-Ok-Held-clause-keeps : goal.returns-in-Ok-Held-clause-keeps
returns-in-Ok-Held-clause-keeps c =
    keeps_ok c.keep_found-in-Ok-Held.result _ _ (λ pushed. keep_item c.args.rest.now.now c.next.new.rest.now c.args.feed.now c.next.new.self Held c.held.result c.args.entries.now.items c.keep_found-in-Ok-Held.new.entries.items
    (rw c.in-Ok-Held.field-0-is at c.in-Ok-Held.ensures.advances) (found_held c.next.new.self c.held.result c.held.ensures) pushed) c.keep_found-in-Ok-Held.ensures

pub returns-in-Ok-Nothing-clause-keeps : goal.returns-in-Ok-Nothing-clause-keeps
returns-in-Ok-Nothing-clause-keeps c =
    keep_item c.args.rest.now.now c.next.new.rest.now c.args.feed.now c.next.new.self Nothing None c.args.entries.now.items c.args.entries.now.items
    (rw c.in-Ok-Nothing.field-0-is at c.in-Ok-Nothing.ensures.advances) refl (sym (append-nil _))

pub returns-else-is_refusal-clause-keeps : goal.returns-else-is_refusal-clause-keeps
returns-else-is_refusal-clause-keeps c =
    keep_stopped c.args.rest.now.now c.next.new.rest.now c.args.feed.now c.next.new.self c.args.entries.now.items c.in-Err.fault c.in-Err.ensures.says c.in-Err.ensures.advances
