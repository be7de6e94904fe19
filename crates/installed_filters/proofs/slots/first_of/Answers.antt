use Rattle.std.proofs.Common.{sym}
use Rattle.installed_filters.proofs.Freeing.{found_has}
use Rattle.installed_filters.proofs.slots.first_of.Goals as goal

pub returns : goal.returns
returns c = found_has _ c.args.numbers.now.entries c.in_ok-entry.entry.now (sym c.in_ok-entry.ensures)
