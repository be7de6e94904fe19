use Rattle.std.proofs.Common.{subst, sym, ◌∙◌}
use Rattle.installed_filters.specs.Slotting.{HasRoomIn}
use Rattle.installed_filters.proofs.Swapped.{base_after, begins_after, booked_swap, swap_slots}
use Rattle.installed_filters.proofs.books.swap.Goals as goal

pub begin-requires-clause-begins : goal.begin-requires-clause-begins
begin-requires-clause-begins c =
    begins_after c.args.slots.now.slots c.take.new.self.slots c.args.old c.take.ensures.slots c.args.row.number c.requires.other c.args.program c.requires.begins

pub add-requires-clause-room : goal.add-requires-clause-room
add-requires-clause-room c =
    subst HasRoomIn (sym (c.begin.ensures.own ∙ base_after c.args.slots.now.slots c.take.new.self.slots c.args.old c.take.ensures.slots c.args.row.number c.requires.other c.args.program)) c.requires.room

pub returns-clause-booked : goal.returns-clause-booked
returns-clause-booked c = λ rows others after booked goes comes.
    booked_swap rows others after c.args.slots.now.slots c.take.new.self.slots c.begin.new.slots.slots c.add.new.self.slots c.args.reaches.now.ends c.add-2.new.self.ends c.take-2.new.self.ends c.args.old c.args.row c.args.program
    c.requires.old_held c.requires.held c.requires.other c.requires.old_number c.requires.number c.requires.slot c.take.ensures.numbers (c.add.ensures.numbers ∙ c.begin.ensures.numbers) (c.take-2.ensures.numbers ∙ c.add-2.ensures.numbers) c.requires.begins
    c.take.ensures.slots c.begin.ensures.own c.begin.ensures.others c.add.ensures.slots c.add-2.ensures.counts c.take-2.ensures.counts booked goes comes

pub returns-clause-slots : goal.returns-clause-slots
returns-clause-slots c =
    swap_slots c.args.slots.now.slots c.take.new.self.slots c.args.old c.take.ensures.slots c.args.row.number c.requires.other c.begin.new.slots.slots c.add.new.self.slots c.args.program c.args.row.held c.begin.ensures.own c.begin.ensures.others c.add.ensures.slots
