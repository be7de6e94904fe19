use Rattle.std.proofs.Common.{Option, subst}
use Rattle.installed_filters.specs.declared.changes.Change.{Change}
use Rattle.installed_filters.specs.Listing.{AreListedFor}
use Rattle.installed_filters.specs.Planning.{HasSlots, slots_next}
use Rattle.installed_filters.specs.Slotting.{slot_at}
use Rattle.installed_filters.proofs.Through.{listed_once}
use Rattle.installed_filters.proofs.changes.take_back.Goals as goal

pub undo-requires-clause-slots : goal.undo-requires-clause-slots
undo-requires-clause-slots c = subst (HasSlots c.args.slots.now.slots) c.in-Some.is c.requires.slots

pub undo-requires-clause-listed : goal.undo-requires-clause-listed
undo-requires-clause-listed c =
    let slots = c.args.slots.now.slots in
    let lists = c.args.lists.now in
    subst (λ (x : Option Change). AreListedFor (slot_at slots) (slots_next slots x) lists.running lists.resting) c.in-Some.is c.requires.listed

pub returns-in-None : goal.returns-in-None
returns-in-None c =
    let slots = c.args.slots.now.slots in
    let lists = c.args.lists.now in
    listed_once (slot_at slots) lists.running lists.resting (subst (λ (x : Option Change). AreListedFor (slot_at slots) (slots_next slots x) lists.running lists.resting) c.in-None.is c.requires.listed)
