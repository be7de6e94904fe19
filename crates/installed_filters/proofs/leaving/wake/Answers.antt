use Rattle.std.proofs.Common.{◌≡◌, Some, ap, subst, sym}
use Rattle.installed_filters.specs.Homes.{program_in}
use Rattle.installed_filters.specs.Leaving.{GoesToRest}
use Rattle.installed_filters.specs.Slotting.{slot_at}
use Rattle.installed_filters.proofs.Through.{without_when}
use Rattle.installed_filters.proofs.leaving.wake.Goals as goal

pub returns-then-goes_to_rest : goal.returns-then-goes_to_rest
returns-then-goes_to_rest c =
    let row = c.args.row in
    let s = c.slot_of-slot.result.now in
    let there : slot_at c.args.slots.now.slots row.number ≡ Some s = c.slot_of-slot.ensures in
    let goes : GoesToRest row.held (slot_at c.args.slots.now.slots row.number) = subst (GoesToRest row.held) (sym there) (c.goes_to_rest.ensures.0 c.if-goes_to_rest.true) in
    without_when c.args.resting.now c.take_out.new.self s.program (program_in (slot_at c.args.slots.now.slots row.number)) (GoesToRest row.held (slot_at c.args.slots.now.slots row.number)) goes (ap program_in there) c.take_out.ensures
