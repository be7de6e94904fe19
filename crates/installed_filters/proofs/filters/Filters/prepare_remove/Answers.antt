use Rattle.std.proofs.Common.{◌≡◌, ◌∙◌, ℕ, List, Option, Some, ap, arith, refl, subst, sym}
use Rattle.chunked.specs.Maps.{value_at}
use Rattle.installed_filters.specs.declared.slots.Slot.{Slot}
use Rattle.installed_filters.specs.Numbering.{Numbering}
use Rattle.installed_filters.specs.Slotting.{slot_at}
use Rattle.installed_filters.specs.declared.lists.Lists.{Lists}
use Rattle.installed_filters.specs.Listing.{AreListed}
use Rattle.installed_filters.specs.Installed.{Standing}
use Rattle.installed_filters.proofs.Exchanged.{may_go}
use Rattle.installed_filters.proofs.Planned.{booked_same, listed_room, one_of, planned_none, still_free, there_found}
use Rattle.installed_filters.proofs.Through.{go_fresh, go_planned}
use Rattle.installed_filters.proofs.filters.Filters.prepare_remove.Goals as goal

pub unreachable-requires : goal.unreachable-requires
unreachable-requires c =
    let f = c.requires.there in
    let none = c.in-None.ensures in
    there_found c.self.inside.slots.slots c.self.inside.rows.entries c.args.self.now.now c.args.id f.0 (ap (λ (s : Standing). s.now) c.self.view_is) f.1 f.2
    (ap (λ (k : ℕ). value_at c.self.inside.rows.entries k) (sym c.from.ensures) ∙ sym none)

pub rest-requires-clause-one : goal.rest-requires-clause-one
rest-requires-clause-one c =
    let i = c.self.inside in
    let same : (m : ℕ) → slot_at c.reserve.new.self.slots m ≡ slot_at i.slots.slots m = λ m. ap (λ (ss : List (Option Slot)). slot_at ss m) c.reserve.ensures.slots in
    let row = c.in-Some.row.now in
    let at : value_at i.rows.entries c.args.id ≡ Some row = ap (λ (k : ℕ). value_at i.rows.entries k) (sym c.from.ensures) ∙ sym c.in-Some.ensures in
    let booked = booked_same i.rows.entries i.rows.entries i.slots.slots c.reserve.new.self.slots i.reaches.ends i.reaches.ends refl same (λ m q. refl) (omega arith) c.self.invariant.0.booked in
    let one = one_of i.rows.entries c.reserve.new.self.slots i.reaches.ends c.args.id row booked at in
    one

pub rest-requires-clause-fresh : goal.rest-requires-clause-fresh
rest-requires-clause-fresh c =
    let i = c.self.inside in
    let none = planned_none i.slots.slots i.rows.entries i.change (ap (λ (s : Standing). s.next) c.self.view_is ∙ c.requires.free) in
    let same : (m : ℕ) → slot_at c.reserve.new.self.slots m ≡ slot_at i.slots.slots m = λ m. ap (λ (ss : List (Option Slot)). slot_at ss m) c.reserve.ensures.slots in
    let row = c.in-Some.row.now in
    let at : value_at i.rows.entries c.args.id ≡ Some row = ap (λ (k : ℕ). value_at i.rows.entries k) (sym c.from.ensures) ∙ sym c.in-Some.ensures in
    let booked = booked_same i.rows.entries i.rows.entries i.slots.slots c.reserve.new.self.slots i.reaches.ends i.reaches.ends refl same (λ m q. refl) (omega arith) c.self.invariant.0.booked in
    let one = one_of i.rows.entries c.reserve.new.self.slots i.reaches.ends c.args.id row booked at in
    let listed = listed_room i.rows.entries i.slots.slots c.reserve.new.self.slots i.reaches.ends i.lists i.change none same c.self.invariant.0 in
    go_fresh c.reserve.new.self.slots row booked.apart one i.lists.resting listed.rest

pub invariant_of-self-in_err-rest : goal.invariant_of-self-in_err-rest
invariant_of-self-in_err-rest c =
    let i = c.self.inside in
    let none = planned_none i.slots.slots i.rows.entries i.change (ap (λ (s : Standing). s.next) c.self.view_is ∙ c.requires.free) in
    let same : (m : ℕ) → slot_at c.reserve.new.self.slots m ≡ slot_at i.slots.slots m = λ m. ap (λ (ss : List (Option Slot)). slot_at ss m) c.reserve.ensures.slots in
    let listed = listed_room i.rows.entries i.slots.slots c.reserve.new.self.slots i.reaches.ends i.lists i.change none same c.self.invariant.0 in
    let lists : Lists = record i.lists { resting = c.rest.new.resting } in
    still_free i.rows i.rows i.slots c.reserve.new.self i.reaches i.reaches i.lists lists i.change none refl same (λ m q. refl) (omega arith) c.self.invariant.0
    (subst (λ (n : Numbering). AreListed (slot_at c.reserve.new.self.slots) i.lists.running n) (sym c.in_err-rest.ensures.undone) listed)

pub invariant_of-self-2 : goal.invariant_of-self-2
invariant_of-self-2 c =
    let i = c.self.inside in
    let none = planned_none i.slots.slots i.rows.entries i.change (ap (λ (s : Standing). s.next) c.self.view_is ∙ c.requires.free) in
    let same : (m : ℕ) → slot_at c.reserve.new.self.slots m ≡ slot_at i.slots.slots m = λ m. ap (λ (ss : List (Option Slot)). slot_at ss m) c.reserve.ensures.slots in
    let row = c.in-Some.row.now in
    let at : value_at i.rows.entries c.args.id ≡ Some row = ap (λ (k : ℕ). value_at i.rows.entries k) (sym c.from.ensures) ∙ sym c.in-Some.ensures in
    let booked = booked_same i.rows.entries i.rows.entries i.slots.slots c.reserve.new.self.slots i.reaches.ends i.reaches.ends refl same (λ m q. refl) (omega arith) c.self.invariant.0.booked in
    let one = one_of i.rows.entries c.reserve.new.self.slots i.reaches.ends c.args.id row booked at in
    let listed = listed_room i.rows.entries i.slots.slots c.reserve.new.self.slots i.reaches.ends i.lists i.change none same c.self.invariant.0 in (
      record {
        booked = booked;
        listed = go_planned c.reserve.new.self.slots row booked.apart one i.lists.running i.lists.resting c.rest.new.resting listed c.in_ok-rest.ensures.done;
        ids = c.self.invariant.0.ids;
      },
      record { there = at; room = may_go c.in_ok-reserve.ensures.ready (slot_at c.reserve.new.self.slots row.number) },
    )
