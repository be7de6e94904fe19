use Rattle.std.proofs.Common.{ℕ, List, Option, Some, ap, refl, subst, sym}
use Rattle.installed_filters.specs.declared.books.Row.{Row}
use Rattle.installed_filters.specs.declared.changes.Change.{Change}
use Rattle.installed_filters.specs.Lapsing.{AreRestingOr}
use Rattle.installed_filters.specs.Listing.{AreListedFor}
use Rattle.installed_filters.specs.Planning.{HasSlots, slots_next}
use Rattle.installed_filters.specs.Slotting.{slot_at}
use Rattle.installed_filters.proofs.Rested.{resting_or, running_still}
use Rattle.installed_filters.proofs.Through.{come_back, go_back, listed_once, swap_back}
use Rattle.installed_filters.proofs.changes.undo.Goals as goal

pub returns-in-Install : goal.returns-in-Install
returns-in-Install c =
    let slots = c.args.slots.now.slots in
    let lists = c.args.lists.now in
    let row = c.in-Install.row in
    let program = c.in-Install.program in
    let is = ap (λ (x : Change). Some x) c.in-Install.is in
    come_back slots row.number program (subst (HasSlots slots) is c.requires.slots) c.requires.apart lists.running c.take_new.new.list lists.resting
    (subst (λ (x : Option Change). AreListedFor (slot_at slots) (slots_next slots x) lists.running lists.resting) is c.requires.listed) c.take_new.ensures

pub returns-in-Remove : goal.returns-in-Remove
returns-in-Remove c =
    let slots = c.args.slots.now.slots in
    let lists = c.args.lists.now in
    let row = c.in-Remove.row in
    let is = ap (λ (x : Change). Some x) c.in-Remove.is in
    go_back slots row c.requires.apart (subst (HasSlots slots) is c.requires.slots) lists.running lists.resting c.wake.new.resting
    (subst (λ (x : Option Change). AreListedFor (slot_at slots) (slots_next slots x) lists.running lists.resting) is c.requires.listed) c.wake.ensures

pub returns-in-Replace : goal.returns-in-Replace
returns-in-Replace c =
    let slots = c.args.slots.now.slots in
    let lists = c.args.lists.now in
    let old = c.in-Replace.old in
    let row = c.in-Replace.row in
    let program = c.in-Replace.program in
    let is = ap (λ (x : Change). Some x) c.in-Replace.is in
    let h = subst (HasSlots slots) is c.requires.slots in
    swap_back slots row.number program h.0 c.requires.apart h.4 old row refl h.3 h.2 h.1 lists.running c.take_new-in-Replace.new.list lists.resting c.wake-in-Replace.new.resting
    (subst (λ (x : Option Change). AreListedFor (slot_at slots) (slots_next slots x) lists.running lists.resting) is c.requires.listed) c.take_new-in-Replace.ensures c.wake-in-Replace.ensures

pub wake_all-requires-clause-rests : goal.wake_all-requires-clause-rests
wake_all-requires-clause-rests c =
    let slots = c.args.slots.now.slots in
    let lists = c.args.lists.now in
    let is = ap (λ (x : Change). Some x) c.in-Lapse.is in
    subst (λ (es : List (ℕ × Row)). AreRestingOr slots es lists.resting) (sym c.deref.ensures.value)
    (resting_or slots c.in-Lapse.lapsing.items lists.running lists.resting (subst (λ (x : Option Change). AreListedFor (slot_at slots) (slots_next slots x) lists.running lists.resting) is c.requires.listed))

pub returns-in-Lapse : goal.returns-in-Lapse
returns-in-Lapse c =
    let slots = c.args.slots.now.slots in
    let lists = c.args.lists.now in
    let is = ap (λ (x : Change). Some x) c.in-Lapse.is in
    record {
      run = running_still slots c.in-Lapse.lapsing.items lists.running lists.resting (subst (λ (x : Option Change). AreListedFor (slot_at slots) (slots_next slots x) lists.running lists.resting) is c.requires.listed);
      rest = c.wake_all.ensures;
    }

pub returns-in-Stay : goal.returns-in-Stay
returns-in-Stay c =
    let slots = c.args.slots.now.slots in
    let lists = c.args.lists.now in
    let is = ap (λ (x : Change). Some x) c.in-Stay.is in
    listed_once (slot_at slots) lists.running lists.resting (subst (λ (x : Option Change). AreListedFor (slot_at slots) (slots_next slots x) lists.running lists.resting) is c.requires.listed)
