use Rattle.std.proofs.Common.{◌+◌, ℕ, ◌≡◌, Some, drop, false, get_or, subst, sym}
use Rattle.std.proofs.lemmas.List.{drop_all, drop_more}
use Rattle.std.proofs.lemmas.List.Elements.{Contains-get_or}
use Rattle.std.specs.Prelude.{List}
use Rattle.installed_filters.specs.declared.books.Row.{Row}
use Rattle.installed_filters.specs.Slotting.{slot_at}
use Rattle.installed_filters.specs.Lapsing.{AreRestingOr}
use Rattle.installed_filters.proofs.Rested.{held_here, not_there, wake_one, woken}
use Rattle.installed_filters.proofs.lapsing.wake_all.Goals as goal

abbrev no_row : ℕ × Row
no_row = (0, record { owner = 0; cap = 0; endpoint = 0; held = false; number = 0 })

pub unreachable-requires : goal.unreachable-requires
unreachable-requires c =
    let all = c.args.lapsing.now in
    let k = c.loop-entry.entry-index in
    let e = get_or all k no_row in
    not_there c.args.slots.now.slots all e c.requires.held (Contains-get_or all k no_row c.loop-entry-test.true) (sym c.in-None.ensures)

pub loop-entry-preserved : goal.loop-entry-preserved
loop-entry-preserved c =
    let all = c.args.lapsing.now in
    let k = c.loop-entry.entry-index in
    let e = get_or all k no_row in
    let s = c.in-Some.slot.now in
    let at : slot_at c.args.slots.now.slots e.1.number ≡ Some s = sym c.in-Some.ensures in
    let some = held_here c.args.slots.now.slots all e s c.requires.held (Contains-get_or all k no_row c.loop-entry-test.true) at in
    wake_one c.args.slots.now.slots e (drop (k + 1) all) s c.loop-entry.resting c.take_out.new.self c.requires.apart at some c.take_out.ensures
    (subst (λ (es : List (ℕ × Row)). AreRestingOr c.args.slots.now.slots es c.loop-entry.resting) (drop_more all k no_row c.loop-entry-test.true) c.loop-entry.invariant)

pub returns : goal.returns
returns c =
    let all = c.args.lapsing.now in
    let k = c.loop-entry.entry-index in
    woken c.args.slots.now.slots (drop k all) c.loop-entry.resting (drop_all k all c.loop-entry-test.false) c.loop-entry.invariant
