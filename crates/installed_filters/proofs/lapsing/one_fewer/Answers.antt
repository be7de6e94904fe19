use Rattle.std.proofs.Common.{◌≡◌, ◌+◌, ◌<◌, ◌≤◌, ◌⊎◌, arith, sym}
use Rattle.chunked.specs.Maps.{value_at}
use Rattle.installed_filters.specs.Counts.{number_of}
use Rattle.installed_filters.specs.Slotting.{slot_at}
use Rattle.installed_filters.specs.Listing.{AreThose, IsWith, Rests}
use Rattle.installed_filters.specs.Lapsing.{slots_counted}
use Rattle.installed_filters.proofs.Exchanged.{map_ok}
use Rattle.installed_filters.proofs.Rested.{counted_fresh, counted_off, counted_on, more_here}
use Rattle.installed_filters.proofs.lapsing.one_fewer.Goals as goal

pub count_up-requires : goal.count_up-requires
count_up-requires c = more_here c.args.slots.now.slots c.args.number (number_of (value_at c.args.counts.now.entries c.args.number)) c.in-Some.slot.now c.in-Some.ensures c.requires.more

pub returns-then-not-branch-clause-rests : goal.returns-then-not-branch-clause-rests
returns-then-not-branch-clause-rests c =
    let counts = c.args.counts.now.entries in
    let s = c.in-Some.slot.now in
    let more = more_here c.args.slots.now.slots c.args.number (number_of (value_at counts c.args.number)) s c.in-Some.ensures c.requires.more in
    let still : number_of (value_at counts c.args.number) + 1 < s.held = let other : number_of (value_at counts c.args.number) + 1 ≡ s.held → ⊥ = λ same. (let all = c.in_ok-count_up.ensures.all.1 same in let some = c.if-not-branch.true in cc) in omega arith in
    counted_on c.args.slots.now.slots counts c.count_up.new.counts.entries c.args.resting.now c.args.number s (sym c.in-Some.ensures) more c.requires.rests
    c.in_ok-count_up.ensures.counts still

pub add-requires : goal.add-requires
add-requires c =
    let counts = c.args.counts.now.entries in
    let s = c.in-Some.slot.now in
    let more = more_here c.args.slots.now.slots c.args.number (number_of (value_at counts c.args.number)) s c.in-Some.ensures c.requires.more in
    counted_fresh c.args.slots.now.slots counts c.count_up.new.counts.entries c.args.resting.now c.args.number s (sym c.in-Some.ensures) more c.requires.rests c.requires.apart

pub returns-clause-rests : goal.returns-clause-rests
returns-clause-rests c =
    let slots = c.args.slots.now.slots in
    let counts = c.args.counts.now.entries in
    let s = c.in-Some.slot.now in
    let more = more_here slots c.args.number (number_of (value_at counts c.args.number)) s c.in-Some.ensures c.requires.more in
    let last : s.held ≤ number_of (value_at counts c.args.number) + 1 = let same = c.in_ok-count_up.ensures.all.0 c.if-not-branch.false in omega arith in
    map_ok c.add.result (IsWith c.args.resting.now c.args.number s.program c.add.new.self) (AreThose c.add.new.self (λ m p. Rests (slot_at slots) m p ⊎ Rests (slots_counted slots c.count_up.new.counts.entries) m p))
    (counted_off slots counts c.count_up.new.counts.entries c.args.resting.now c.args.number s (sym c.in-Some.ensures) more c.requires.rests c.in_ok-count_up.ensures.counts c.add.new.self last) c.add.ensures.done
