use Rattle.std.proofs.Common.{◌+◌, Bool, ℕ, drop, false, get_or, subst, true}
use Rattle.std.proofs.lemmas.List.{drop_all, drop_more}
use Rattle.filter_table.proofs.Lists.{in_head}
use Rattle.installed_filters.specs.declared.books.Row.{Row}
use Rattle.installed_filters.specs.Leaving.{IsOneOf}
use Rattle.installed_filters.specs.Slotting.{slot_at}
use Rattle.installed_filters.proofs.Planned.{has_one, one_of, row_inside}
use Rattle.installed_filters.proofs.Lapsed.{AreLapsing, lapsing_begins, lapsing_done, lapsing_one}
use Rattle.installed_filters.proofs.Rested.{stopped}
use Rattle.installed_filters.proofs.changes.lapse_all.Goals as goal

abbrev no_row : ℕ × Row
no_row = (0, record { owner = 0; cap = 0; endpoint = 0; held = false; number = 0 })

pub loop-entry-init : goal.loop-entry-init
loop-entry-init c = record {
  lapsing = lapsing_begins c.args.rows.now.entries c.args.slots.now.slots c.args.reaches.now.ends c.args.lapsing.now c.requires.booked c.requires.held c.requires.order;
  runs = c.requires.runs;
}

pub lapse_one-requires-clause-there : goal.lapse_one-requires-clause-there
lapse_one-requires-clause-there c =
    let all = c.args.lapsing.now in
    let k = c.loop-entry.entry-index in
    let e = get_or all k no_row in
    let h = subst (AreLapsing c.args.rows.now.entries c.args.slots.now.slots all c.loop-entry.rows.entries c.loop-entry.slots.slots c.loop-entry.reaches.ends) (drop_more all k no_row c.loop-entry-test.true) c.loop-entry.invariant.lapsing in
    h.held.there e (in_head e (drop (k + 1) all))

pub lapse_one-requires-clause-held : goal.lapse_one-requires-clause-held
lapse_one-requires-clause-held c =
    let all = c.args.lapsing.now in
    let k = c.loop-entry.entry-index in
    let e = get_or all k no_row in
    let h = subst (AreLapsing c.args.rows.now.entries c.args.slots.now.slots all c.loop-entry.rows.entries c.loop-entry.slots.slots c.loop-entry.reaches.ends) (drop_more all k no_row c.loop-entry-test.true) c.loop-entry.invariant.lapsing in
    h.held.held e (in_head e (drop (k + 1) all))

pub lapse_one-requires-clause-slot : goal.lapse_one-requires-clause-slot
lapse_one-requires-clause-slot c =
    let all = c.args.lapsing.now in
    let k = c.loop-entry.entry-index in
    let e = get_or all k no_row in
    let h = subst (AreLapsing c.args.rows.now.entries c.args.slots.now.slots all c.loop-entry.rows.entries c.loop-entry.slots.slots c.loop-entry.reaches.ends) (drop_more all k no_row c.loop-entry-test.true) c.loop-entry.invariant.lapsing in
    (row_inside c.loop-entry.rows.entries c.loop-entry.slots.slots c.loop-entry.reaches.ends e.0 e.1 h.booked (h.held.there e (in_head e (drop (k + 1) all)))).0

pub lapse_one-requires-clause-number : goal.lapse_one-requires-clause-number
lapse_one-requires-clause-number c =
    let all = c.args.lapsing.now in
    let k = c.loop-entry.entry-index in
    let e = get_or all k no_row in
    let h = subst (AreLapsing c.args.rows.now.entries c.args.slots.now.slots all c.loop-entry.rows.entries c.loop-entry.slots.slots c.loop-entry.reaches.ends) (drop_more all k no_row c.loop-entry-test.true) c.loop-entry.invariant.lapsing in
    (row_inside c.loop-entry.rows.entries c.loop-entry.slots.slots c.loop-entry.reaches.ends e.0 e.1 h.booked (h.held.there e (in_head e (drop (k + 1) all)))).1

pub lapse_one-requires-clause-one : goal.lapse_one-requires-clause-one
lapse_one-requires-clause-one c =
    let all = c.args.lapsing.now in
    let k = c.loop-entry.entry-index in
    let e = get_or all k no_row in
    let h = subst (AreLapsing c.args.rows.now.entries c.args.slots.now.slots all c.loop-entry.rows.entries c.loop-entry.slots.slots c.loop-entry.reaches.ends) (drop_more all k no_row c.loop-entry-test.true) c.loop-entry.invariant.lapsing in
    let here = in_head e (drop (k + 1) all) in
    has_one (slot_at c.loop-entry.slots.slots e.1.number) true
    (subst (λ (b : Bool). IsOneOf (slot_at c.loop-entry.slots.slots e.1.number) b) (h.held.held e here) (one_of c.loop-entry.rows.entries c.loop-entry.slots.slots c.loop-entry.reaches.ends e.0 e.1 h.booked (h.held.there e here)))

pub loop-entry-preserved : goal.loop-entry-preserved
loop-entry-preserved c =
    let all = c.args.lapsing.now in
    let k = c.loop-entry.entry-index in
    let e = get_or all k no_row in
    let h = subst (AreLapsing c.args.rows.now.entries c.args.slots.now.slots all c.loop-entry.rows.entries c.loop-entry.slots.slots c.loop-entry.reaches.ends) (drop_more all k no_row c.loop-entry-test.true) c.loop-entry.invariant.lapsing in
    record {
      lapsing = lapsing_one c.args.rows.now.entries c.args.slots.now.slots all c.loop-entry.rows.entries c.lapse_one.new.rows.entries c.loop-entry.slots.slots c.lapse_one.new.slots.slots c.loop-entry.reaches.ends c.lapse_one.new.reaches.ends e (drop (k + 1) all)
          h (c.lapse_one.ensures.booked h.booked) c.lapse_one.ensures.rows c.lapse_one.ensures.slots;
      runs = stopped c.loop-entry.slots.slots c.lapse_one.new.slots.slots e.1.number c.lapse_one.ensures.slots c.loop-entry.running c.stop_unheld.new.running h.booked.apart c.loop-entry.invariant.runs c.stop_unheld.ensures;
    }

pub returns-clause-booked : goal.returns-clause-booked
returns-clause-booked c = c.loop-entry.invariant.lapsing.booked

pub returns-clause-filters : goal.returns-clause-filters
returns-clause-filters c =
    let all = c.args.lapsing.now in
    let k = c.loop-entry.entry-index in
    (lapsing_done c.args.rows.now.entries c.args.slots.now.slots all c.loop-entry.rows.entries c.loop-entry.slots.slots c.loop-entry.reaches.ends (drop k all) (drop_all k all c.loop-entry-test.false) c.loop-entry.invariant.lapsing).0

pub returns-clause-slots : goal.returns-clause-slots
returns-clause-slots c =
    let all = c.args.lapsing.now in
    let k = c.loop-entry.entry-index in
    (lapsing_done c.args.rows.now.entries c.args.slots.now.slots all c.loop-entry.rows.entries c.loop-entry.slots.slots c.loop-entry.reaches.ends (drop k all) (drop_all k all c.loop-entry-test.false) c.loop-entry.invariant.lapsing).1
