use Rattle.std.proofs.Common.{◌≡◌, Some, ap, subst, sym}
use Rattle.installed_filters.specs.Homes.{program_in}
use Rattle.installed_filters.specs.Leaving.{Stops, Vanishes}
use Rattle.installed_filters.specs.Slotting.{slot_at}
use Rattle.installed_filters.proofs.Through.{without_when}
use Rattle.installed_filters.proofs.leaving.leave.Goals as goal

pub returns-then-slot-eq1-clause-running : goal.returns-then-slot-eq1-clause-running
returns-then-slot-eq1-clause-running c =
    let row = c.args.row in
    let s = c.slot_of-slot.result.now in
    let there : slot_at c.args.slots.now.slots row.number ≡ Some s = c.slot_of-slot.ensures in
    let stops : Stops row.held (slot_at c.args.slots.now.slots row.number) = subst (Stops row.held) (sym there) (c.if-row.true, c.if-slot-eq1.true) in
    without_when c.args.lists.now.running c.take_out.new.self s.program (program_in (slot_at c.args.slots.now.slots row.number)) (Stops row.held (slot_at c.args.slots.now.slots row.number)) stops (ap program_in there) c.take_out.ensures

pub returns-then-slot-eq1-2-clause-resting : goal.returns-then-slot-eq1-2-clause-resting
returns-then-slot-eq1-2-clause-resting c =
    let row = c.args.row in
    let s = c.slot_of-slot.result.now in
    let there : slot_at c.args.slots.now.slots row.number ≡ Some s = c.slot_of-slot.ensures in
    let vanishes : Vanishes row.held (slot_at c.args.slots.now.slots row.number) = subst (Vanishes row.held) (sym there) (c.if-row.false, c.if-slot-eq1-2.true) in
    without_when c.args.lists.now.resting c.take_out-then-slot-eq1-2.new.self s.program (program_in (slot_at c.args.slots.now.slots row.number)) (Vanishes row.held (slot_at c.args.slots.now.slots row.number)) vanishes (ap program_in there)
    c.take_out-then-slot-eq1-2.ensures
