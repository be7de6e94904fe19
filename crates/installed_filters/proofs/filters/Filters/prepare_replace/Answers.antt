use Rattle.std.proofs.Common.{map, ◌≡◌, ◌<◌, ◌∙◌, ℕ, List, Option, None, Some, ap, arith, length, refl, subst, sym}
use Rattle.bpf_insn.specs.declared.insn.Insn.{Insn}
use Rattle.chunked.specs.Maps.{value_at}
use Rattle.installed_filters.specs.declared.slots.Slot.{Slot}
use Rattle.installed_filters.specs.Slotting.{slot_at}
use Rattle.installed_filters.specs.Counts.{reach_at}
use Rattle.installed_filters.specs.declared.changes.Change.{Change}
use Rattle.installed_filters.specs.Books.{base_slot}
use Rattle.installed_filters.specs.Homes.{IsHome, program_in}
use Rattle.installed_filters.specs.Installed.{Installed, Standing, installed, replaced_by}
use Rattle.installed_filters.specs.Planning.{IsKept, IsPlanned, next_of}
use Rattle.installed_filters.proofs.Arrived.{base_there}
use Rattle.installed_filters.proofs.Rows.{booked_slot, found_in, installed_slots}
use Rattle.installed_filters.proofs.Planned.{booked_same, housed, listed_room, one_of, planned_none, reach_fits, room_in, still_free, there_found}
use Rattle.installed_filters.proofs.Exchanged.{held_there, installed-length, may_go, on_err, replaced_same}
use Rattle.installed_filters.proofs.Through.{listed_twice}
use Rattle.installed_filters.proofs.filters.Filters.prepare_replace.Goals as goal

pub unreachable-requires : goal.unreachable-requires
unreachable-requires c =
    let f = c.requires.there in
    let none = c.in-None.ensures in
    there_found c.self.inside.slots.slots c.self.inside.rows.entries c.args.self.now.now c.args.id f.0 (ap (λ (s : Standing). s.now) c.self.view_is) f.1 f.2
    (ap (λ (k : ℕ). value_at c.self.inside.rows.entries k) (sym c.from.ensures) ∙ sym none)

pub home_of-requires : goal.home_of-requires
home_of-requires c =
    let i = c.self.inside in
    let none = planned_none i.slots.slots i.rows.entries i.change (ap (λ (s : Standing). s.next) c.self.view_is ∙ c.requires.free) in
    record { housed = housed i.rows.entries i.slots.slots i.reaches.ends i.lists i.change none c.self.invariant.0 }

pub invariant_of-self : goal.invariant_of-self
invariant_of-self c =
    let i = c.self.inside in
    let none = planned_none i.slots.slots i.rows.entries i.change (ap (λ (s : Standing). s.next) c.self.view_is ∙ c.requires.free) in
    still_free i.rows i.rows i.slots c.home_of.new.slots i.reaches c.home_of.new.reaches i.lists i.lists i.change none refl c.home_of.ensures.grown.programs c.home_of.ensures.grown.counts c.home_of.ensures.grown.more c.self.invariant.0
    (listed_room i.rows.entries i.slots.slots c.home_of.new.slots.slots i.reaches.ends i.lists i.change none c.home_of.ensures.grown.programs c.self.invariant.0)

pub invariant_of-self-then-home-old : goal.invariant_of-self-then-home-old
invariant_of-self-then-home-old c =
    let i = c.self.inside in
    let none = planned_none i.slots.slots i.rows.entries i.change (ap (λ (s : Standing). s.next) c.self.view_is ∙ c.requires.free) in
    let listed = listed_room i.rows.entries i.slots.slots c.home_of.new.slots.slots i.reaches.ends i.lists i.change none c.home_of.ensures.grown.programs c.self.invariant.0 in (
      record {
        booked = booked_same i.rows.entries i.rows.entries i.slots.slots c.home_of.new.slots.slots i.reaches.ends c.home_of.new.reaches.ends refl c.home_of.ensures.grown.programs c.home_of.ensures.grown.counts c.home_of.ensures.grown.more c.self.invariant.0.booked;
        listed = listed_twice (slot_at c.home_of.new.slots.slots) i.lists.running i.lists.resting listed;
        ids = c.self.invariant.0.ids;
      },
      tt,
    )

pub returns-then-home-old-clause-now : goal.returns-then-home-old-clause-now
returns-then-home-old-clause-now c = installed_slots c.self.inside.slots.slots c.home_of.new.slots.slots c.self.inside.rows.entries c.home_of.ensures.grown.programs ∙ ap (λ (s : Standing). s.now) c.self.view_is

pub returns-then-home-old-clause-planned : goal.returns-then-home-old-clause-planned
returns-then-home-old-clause-planned c =
    let old = c.in-Some.row.now in
    let rows = c.self.inside.rows.entries in
    let at : value_at rows c.args.id ≡ Some old = ap (λ (k : ℕ). value_at rows k) (sym c.from.ensures) ∙ sym c.in-Some.ensures in
    let h = c.in_ok-home.ensures.home in
    let s = booked_slot rows c.self.inside.slots.slots c.self.inside.reaches.ends c.self.invariant.0.booked (c.args.id, old) (found_in rows c.args.id old at) in
    let there : slot_at c.home_of.new.slots.slots c.in_ok-home.home.number ≡ Some s.0 = ap (slot_at c.home_of.new.slots.slots) c.if-home-old.true ∙ (c.home_of.ensures.grown.programs old.number ∙ s.1) in
    let own : program_in (slot_at c.home_of.new.slots.slots old.number) ≡ c.in_ok-program.program =
    ap (λ (m : ℕ). program_in (slot_at c.home_of.new.slots.slots m)) (sym c.if-home-old.true) ∙ (sym (ap program_in (base_there c.home_of.new.slots.slots c.in_ok-home.home.number c.in_ok-home.home.program s.0 h.begins there)) ∙ h.own) in
    let now = installed_slots c.self.inside.slots.slots c.home_of.new.slots.slots c.self.inside.rows.entries c.home_of.ensures.grown.programs ∙ ap (λ (s : Standing). s.now) c.self.view_is in
    let is : c.in_ok-program.program ≡ c.args.program.now = c.in_ok-program.ensures ∙ c.in_ok-clone.ensures.cases in
    ap (λ (fs : List Installed). Some fs)
    (replaced_same rows c.home_of.new.slots.slots c.args.id old c.in_ok-program.program c.len-count.ensures.order at own
    ∙ (ap (map (replaced_by c.args.id c.in_ok-program.program)) now ∙ ap (λ (p : List Insn). map (replaced_by c.args.id p) c.args.self.now.now) is))

pub invariant_of-self-in_err-reserve : goal.invariant_of-self-in_err-reserve
invariant_of-self-in_err-reserve c =
    let i = c.self.inside in
    let none = planned_none i.slots.slots i.rows.entries i.change (ap (λ (s : Standing). s.next) c.self.view_is ∙ c.requires.free) in
    let same : (m : ℕ) → slot_at c.reserve.new.self.slots m ≡ slot_at i.slots.slots m = λ m. ap (λ (ss : List (Option Slot)). slot_at ss m) c.reserve.ensures.slots ∙ c.home_of.ensures.grown.programs m in
    let listed = listed_room i.rows.entries i.slots.slots c.reserve.new.self.slots i.reaches.ends i.lists i.change none same c.self.invariant.0 in
    still_free i.rows i.rows i.slots c.reserve.new.self i.reaches c.home_of.new.reaches i.lists i.lists i.change none refl same c.home_of.ensures.grown.counts c.home_of.ensures.grown.more c.self.invariant.0 listed

pub returns-in_err-reserve-clause-now : goal.returns-in_err-reserve-clause-now
returns-in_err-reserve-clause-now c = installed_slots c.self.inside.slots.slots c.reserve.new.self.slots c.self.inside.rows.entries (λ m. ap (λ (ss : List (Option Slot)). slot_at ss m) c.reserve.ensures.slots ∙ c.home_of.ensures.grown.programs m) ∙ ap (λ (s : Standing). s.now) c.self.view_is

pub returns-in_err-reserve-clause-free : goal.returns-in_err-reserve-clause-free
returns-in_err-reserve-clause-free c =
    let none = planned_none c.self.inside.slots.slots c.self.inside.rows.entries c.self.inside.change (ap (λ (s : Standing). s.next) c.self.view_is ∙ c.requires.free) in
    on_err c.from_residual-in_err-reserve.result (next_of c.reserve.new.self.slots c.self.inside.rows.entries c.self.inside.change ≡ None) (ap (next_of c.reserve.new.self.slots c.self.inside.rows.entries) none)

pub invariant_of-self-in_err-reserve-2 : goal.invariant_of-self-in_err-reserve-2
invariant_of-self-in_err-reserve-2 c =
    let i = c.self.inside in
    let none = planned_none i.slots.slots i.rows.entries i.change (ap (λ (s : Standing). s.next) c.self.view_is ∙ c.requires.free) in
    let same : (m : ℕ) → slot_at c.reserve.new.self.slots m ≡ slot_at i.slots.slots m = λ m. ap (λ (ss : List (Option Slot)). slot_at ss m) c.reserve.ensures.slots ∙ c.home_of.ensures.grown.programs m in
    let counts : (m q : ℕ) → reach_at c.reserve-2.new.self.ends m q ≡ reach_at i.reaches.ends m q = λ m q. c.reserve-2.ensures.counts m q ∙ c.home_of.ensures.grown.counts m q in
    let grown = c.home_of.ensures.grown.more in
    let long = c.reserve-2.ensures.numbers in
    let listed = listed_room i.rows.entries i.slots.slots c.reserve.new.self.slots i.reaches.ends i.lists i.change none same c.self.invariant.0 in
    still_free i.rows i.rows i.slots c.reserve.new.self i.reaches c.reserve-2.new.self i.lists i.lists i.change none refl same counts (omega arith) c.self.invariant.0 listed

pub returns-in_err-reserve-2-clause-now : goal.returns-in_err-reserve-2-clause-now
returns-in_err-reserve-2-clause-now c = installed_slots c.self.inside.slots.slots c.reserve.new.self.slots c.self.inside.rows.entries (λ m. ap (λ (ss : List (Option Slot)). slot_at ss m) c.reserve.ensures.slots ∙ c.home_of.ensures.grown.programs m) ∙ ap (λ (s : Standing). s.now) c.self.view_is

pub returns-in_err-reserve-2-clause-free : goal.returns-in_err-reserve-2-clause-free
returns-in_err-reserve-2-clause-free c =
    let none = planned_none c.self.inside.slots.slots c.self.inside.rows.entries c.self.inside.change (ap (λ (s : Standing). s.next) c.self.view_is ∙ c.requires.free) in
    on_err c.from_residual-in_err-reserve-2.result (next_of c.reserve.new.self.slots c.self.inside.rows.entries c.self.inside.change ≡ None) (ap (next_of c.reserve.new.self.slots c.self.inside.rows.entries) none)

pub exchange-requires-clause-one : goal.exchange-requires-clause-one
exchange-requires-clause-one c =
    let i = c.self.inside in
    let same : (m : ℕ) → slot_at c.reserve.new.self.slots m ≡ slot_at i.slots.slots m = λ m. ap (λ (ss : List (Option Slot)). slot_at ss m) c.reserve.ensures.slots ∙ c.home_of.ensures.grown.programs m in
    let counts : (m q : ℕ) → reach_at c.reserve-2.new.self.ends m q ≡ reach_at i.reaches.ends m q = λ m q. c.reserve-2.ensures.counts m q ∙ c.home_of.ensures.grown.counts m q in
    let grown = c.home_of.ensures.grown.more in
    let long = c.reserve-2.ensures.numbers in
    let old = c.in-Some.row.now in
    let at : value_at i.rows.entries c.args.id ≡ Some old = ap (λ (k : ℕ). value_at i.rows.entries k) (sym c.from.ensures) ∙ sym c.in-Some.ensures in
    let booked = booked_same i.rows.entries i.rows.entries i.slots.slots c.reserve.new.self.slots i.reaches.ends c.reserve-2.new.self.ends refl same counts (omega arith) c.self.invariant.0.booked in
    one_of i.rows.entries c.reserve.new.self.slots c.reserve-2.new.self.ends c.args.id old booked at

pub exchange-requires-clause-held : goal.exchange-requires-clause-held
exchange-requires-clause-held c =
    let i = c.self.inside in
    let old = c.in-Some.row.now in
    let at : value_at i.rows.entries c.args.id ≡ Some old = ap (λ (k : ℕ). value_at i.rows.entries k) (sym c.from.ensures) ∙ sym c.in-Some.ensures in
    held_there i.slots.slots i.rows.entries c.args.self.now.now c.args.id old (ap (λ (s : Standing). s.now) c.self.view_is) c.requires.held at

pub exchange-requires-clause-begins : goal.exchange-requires-clause-begins
exchange-requires-clause-begins c =
    let home = c.in_ok-home.home in
    let h = subst (λ (ss : List (Option Slot)). IsHome ss (length c.home_of.new.reaches.ends) c.in_ok-program.program home) (sym c.reserve.ensures.slots) c.in_ok-home.ensures.home in
    h.begins

pub exchange-requires-clause-inside : goal.exchange-requires-clause-inside
exchange-requires-clause-inside c =
    let home = c.in_ok-home.home in
    let h = subst (λ (ss : List (Option Slot)). IsHome ss (length c.home_of.new.reaches.ends) c.in_ok-program.program home) (sym c.reserve.ensures.slots) c.in_ok-home.ensures.home in
    h.inside

pub exchange-requires-clause-other : goal.exchange-requires-clause-other
exchange-requires-clause-other c =
    λ same. c.if-home-old.false (sym same)

pub exchange-requires-clause-apart : goal.exchange-requires-clause-apart
exchange-requires-clause-apart c =
    let i = c.self.inside in
    let same : (m : ℕ) → slot_at c.reserve.new.self.slots m ≡ slot_at i.slots.slots m = λ m. ap (λ (ss : List (Option Slot)). slot_at ss m) c.reserve.ensures.slots ∙ c.home_of.ensures.grown.programs m in
    let counts : (m q : ℕ) → reach_at c.reserve-2.new.self.ends m q ≡ reach_at i.reaches.ends m q = λ m q. c.reserve-2.ensures.counts m q ∙ c.home_of.ensures.grown.counts m q in
    let grown = c.home_of.ensures.grown.more in
    let long = c.reserve-2.ensures.numbers in
    let booked = booked_same i.rows.entries i.rows.entries i.slots.slots c.reserve.new.self.slots i.reaches.ends c.reserve-2.new.self.ends refl same counts (omega arith) c.self.invariant.0.booked in
    booked.apart

pub exchange-requires-clause-listed : goal.exchange-requires-clause-listed
exchange-requires-clause-listed c =
    let i = c.self.inside in
    let none = planned_none i.slots.slots i.rows.entries i.change (ap (λ (s : Standing). s.next) c.self.view_is ∙ c.requires.free) in
    let same : (m : ℕ) → slot_at c.reserve.new.self.slots m ≡ slot_at i.slots.slots m = λ m. ap (λ (ss : List (Option Slot)). slot_at ss m) c.reserve.ensures.slots ∙ c.home_of.ensures.grown.programs m in
    let listed = listed_room i.rows.entries i.slots.slots c.reserve.new.self.slots i.reaches.ends i.lists i.change none same c.self.invariant.0 in
    listed

pub invariant_of-self-in_err-exchange : goal.invariant_of-self-in_err-exchange
invariant_of-self-in_err-exchange c =
    let i = c.self.inside in
    let none = planned_none i.slots.slots i.rows.entries i.change (ap (λ (s : Standing). s.next) c.self.view_is ∙ c.requires.free) in
    let same : (m : ℕ) → slot_at c.reserve.new.self.slots m ≡ slot_at i.slots.slots m = λ m. ap (λ (ss : List (Option Slot)). slot_at ss m) c.reserve.ensures.slots ∙ c.home_of.ensures.grown.programs m in
    let counts : (m q : ℕ) → reach_at c.reserve-2.new.self.ends m q ≡ reach_at i.reaches.ends m q = λ m q. c.reserve-2.ensures.counts m q ∙ c.home_of.ensures.grown.counts m q in
    let grown = c.home_of.ensures.grown.more in
    let long = c.reserve-2.ensures.numbers in
    still_free i.rows i.rows i.slots c.reserve.new.self i.reaches c.reserve-2.new.self i.lists c.exchange.new.lists i.change none refl same counts (omega arith) c.self.invariant.0 c.in_err-exchange.ensures.undone

pub returns-in_err-exchange-clause-now : goal.returns-in_err-exchange-clause-now
returns-in_err-exchange-clause-now c =
    let i = c.self.inside in
    let same : (m : ℕ) → slot_at c.reserve.new.self.slots m ≡ slot_at i.slots.slots m = λ m. ap (λ (ss : List (Option Slot)). slot_at ss m) c.reserve.ensures.slots ∙ c.home_of.ensures.grown.programs m in
    installed_slots i.slots.slots c.reserve.new.self.slots i.rows.entries same ∙ ap (λ (s : Standing). s.now) c.self.view_is

pub invariant_of-self-2 : goal.invariant_of-self-2
invariant_of-self-2 c =
    let i = c.self.inside in
    let none = planned_none i.slots.slots i.rows.entries i.change (ap (λ (s : Standing). s.next) c.self.view_is ∙ c.requires.free) in
    let same : (m : ℕ) → slot_at c.reserve.new.self.slots m ≡ slot_at i.slots.slots m = λ m. ap (λ (ss : List (Option Slot)). slot_at ss m) c.reserve.ensures.slots ∙ c.home_of.ensures.grown.programs m in
    let counts : (m q : ℕ) → reach_at c.reserve-2.new.self.ends m q ≡ reach_at i.reaches.ends m q = λ m q. c.reserve-2.ensures.counts m q ∙ c.home_of.ensures.grown.counts m q in
    let grown = c.home_of.ensures.grown.more in
    let long = c.reserve-2.ensures.numbers in
    let old = c.in-Some.row.now in
    let at : value_at i.rows.entries c.args.id ≡ Some old = ap (λ (k : ℕ). value_at i.rows.entries k) (sym c.from.ensures) ∙ sym c.in-Some.ensures in
    let booked = booked_same i.rows.entries i.rows.entries i.slots.slots c.reserve.new.self.slots i.reaches.ends c.reserve-2.new.self.ends refl same counts (omega arith) c.self.invariant.0.booked in
    let home = c.in_ok-home.home in
    let h = subst (λ (ss : List (Option Slot)). IsHome ss (length c.home_of.new.reaches.ends) c.in_ok-program.program home) (sym c.reserve.ensures.slots) c.in_ok-home.ensures.home in
    let number = c.in_ok-home.home.number in
    let start = c.in_ok-home.home.program in
    let held = held_there i.slots.slots i.rows.entries c.args.self.now.now c.args.id old (ap (λ (s : Standing). s.now) c.self.view_is) c.requires.held at in
    let few = c.requires.few in
    let long_rows = installed-length i.slots.slots i.rows.entries c.args.self.now.now (ap (λ (s : Standing). s.now) c.self.view_is) in
    let short : length i.rows.entries < 4294967295 = omega (arith, few, long_rows) in
    let below = h.number in
    subst (λ (x : Change). IsKept i.rows.entries c.reserve.new.self.slots c.reserve-2.new.self.ends c.exchange.new.lists (Some x) × IsPlanned i.rows c.reserve.new.self c.reserve-2.new.self (Some x)) (sym c.exchanging.ensures) (
      record { booked = booked; listed = c.in_ok-exchange.ensures.done; ids = c.self.invariant.0.ids },
      record {
        there = at;
        other = λ same_number. c.if-home-old.false (sym same_number);
        held = held;
        same = refl;
        begins = h.begins;
        room = room_in i.rows.entries c.reserve.new.self.slots c.reserve-2.new.self.ends number start booked h.begins short;
        slot = h.inside;
        number = omega (arith, below, long);
        reach = record { room = λ _. c.in_ok-reserve-2.ensures.room; fits = λ _. reach_fits i.rows.entries c.reserve.new.self.slots c.reserve-2.new.self.ends c.reserve-2.new.self.ends number old.endpoint booked (λ m q. refl) short };
        go = may_go c.in_ok-reserve.ensures.ready (slot_at c.reserve.new.self.slots old.number);
      },
    )

pub returns-clause-now : goal.returns-clause-now
returns-clause-now c = installed_slots c.self.inside.slots.slots c.reserve.new.self.slots c.self.inside.rows.entries (λ m. ap (λ (ss : List (Option Slot)). slot_at ss m) c.reserve.ensures.slots ∙ c.home_of.ensures.grown.programs m) ∙ ap (λ (s : Standing). s.now) c.self.view_is

pub returns-clause-planned : goal.returns-clause-planned
returns-clause-planned c =
    let i = c.self.inside in
    let same : (m : ℕ) → slot_at c.reserve.new.self.slots m ≡ slot_at i.slots.slots m = λ m. ap (λ (ss : List (Option Slot)). slot_at ss m) c.reserve.ensures.slots ∙ c.home_of.ensures.grown.programs m in
    let h = c.in_ok-home.ensures.home in
    let now = installed_slots i.slots.slots c.reserve.new.self.slots i.rows.entries same ∙ ap (λ (s : Standing). s.now) c.self.view_is in
    let is : c.in_ok-program.program ≡ c.args.program.now = c.in_ok-program.ensures ∙ c.in_ok-clone.ensures.cases in
    let own : program_in (base_slot c.reserve.new.self.slots c.in_ok-home.home.number c.in_ok-home.home.program) ≡ c.args.program.now =
    ap (λ (ss : List (Option Slot)). program_in (base_slot ss c.in_ok-home.home.number c.in_ok-home.home.program)) c.reserve.ensures.slots ∙ (h.own ∙ is) in
    ap (λ (ch : Change). next_of c.reserve.new.self.slots i.rows.entries (Some ch)) c.exchanging.ensures
    ∙ (ap (λ (p : List Insn). Some (map (replaced_by c.args.id p) (installed c.reserve.new.self.slots i.rows.entries))) own
    ∙ ap (λ (fs : List Installed). Some (map (replaced_by c.args.id c.args.program.now) fs)) now)
