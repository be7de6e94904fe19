use Rattle.std.proofs.Common.{◌+◌, refl, ◌∙◌}
use Rattle.installed_filters.specs.Counts.{number_of, reach_at}
use Rattle.installed_filters.specs.Books.{base_slot}
use Rattle.installed_filters.proofs.Booked.{booked_put, put_slots, reach_kept, reach_put}
use Rattle.installed_filters.proofs.books.put.Goals as goal

pub returns-then-row-clause-booked : goal.returns-then-row-clause-booked
returns-then-row-clause-booked c = λ rows after booked adds.
    let slots = c.args.slots.now.slots in
    let ends = c.args.reaches.now.ends in
    let row = c.args.row in
    booked_put rows after slots c.add.new.self.slots ends c.add-then-row.new.self.ends row adds booked c.args.program c.requires.begins c.requires.slot c.requires.number (c.add.ensures.numbers ∙ c.begin.ensures.numbers) c.add-then-row.ensures.numbers
    (put_slots slots c.begin.new.slots.slots c.add.new.self.slots row.number (base_slot slots row.number c.args.program) row.held c.begin.ensures.own c.begin.ensures.others c.add.ensures.slots)
    (reach_put ends c.add-then-row.new.self.ends row (number_of (reach_at ends row.number row.endpoint) + 1) c.if-row.true c.add-then-row.ensures.counts)

pub returns-else-row-clause-booked : goal.returns-else-row-clause-booked
returns-else-row-clause-booked c = λ rows after booked adds.
    let slots = c.args.slots.now.slots in
    let ends = c.args.reaches.now.ends in
    let row = c.args.row in
    booked_put rows after slots c.add.new.self.slots ends ends row adds booked c.args.program c.requires.begins c.requires.slot c.requires.number (c.add.ensures.numbers ∙ c.begin.ensures.numbers) refl
    (put_slots slots c.begin.new.slots.slots c.add.new.self.slots row.number (base_slot slots row.number c.args.program) row.held c.begin.ensures.own c.begin.ensures.others c.add.ensures.slots)
    (reach_kept ends row (number_of (reach_at ends row.number row.endpoint) + 1) c.if-row.false)

pub returns-then-row-clause-slots : goal.returns-then-row-clause-slots
returns-then-row-clause-slots c =
    let slots = c.args.slots.now.slots in
    put_slots slots c.begin.new.slots.slots c.add.new.self.slots c.args.row.number (base_slot slots c.args.row.number c.args.program) c.args.row.held c.begin.ensures.own c.begin.ensures.others c.add.ensures.slots

pub returns-else-row-clause-slots : goal.returns-else-row-clause-slots
returns-else-row-clause-slots c =
    let slots = c.args.slots.now.slots in
    put_slots slots c.begin.new.slots.slots c.add.new.self.slots c.args.row.number (base_slot slots c.args.row.number c.args.program) c.args.row.held c.begin.ensures.own c.begin.ensures.others c.add.ensures.slots
