use Rattle.std.proofs.Common.{Contains, ◌≡◌, ◌<◌, ◌∙◌, ℕ, List, Some, ap, arith, length, refl, subst, sym}
use Rattle.installed_filters.specs.Counts.{reach_at}
use Rattle.installed_filters.specs.Slotting.{slot_at}
use Rattle.installed_filters.specs.declared.books.Row.{Row}
use Rattle.installed_filters.specs.declared.changes.Change.{Change}
use Rattle.installed_filters.specs.declared.lists.Lists.{Lists}
use Rattle.installed_filters.specs.Listing.{Runs}
use Rattle.installed_filters.specs.Installed.{Standing, installed}
use Rattle.installed_filters.specs.Planning.{AreIds, IsKept, IsPlanned}
use Rattle.installed_filters.proofs.Rows.{installed_slots}
use Rattle.installed_filters.proofs.Planned.{booked_same, housed, last_rows, listed_room, planned_none, reach_fits, room_in, rows_few, still_free}
use Rattle.installed_filters.proofs.Through.{come_planned, those_same}
use Rattle.installed_filters.proofs.filters.Filters.prepare_install.Goals as goal

pub home_of-requires : goal.home_of-requires
home_of-requires c =
    let i = c.self.inside in
    let none = planned_none i.slots.slots i.rows.entries i.change (ap (λ (s : Standing). s.next) c.self.view_is ∙ c.requires.free) in
    record { housed = housed i.rows.entries i.slots.slots i.reaches.ends i.lists i.change none c.self.invariant.0 }

pub invariant_of-self-in_err-home : goal.invariant_of-self-in_err-home
invariant_of-self-in_err-home c =
    let i = c.self.inside in
    let none = planned_none i.slots.slots i.rows.entries i.change (ap (λ (s : Standing). s.next) c.self.view_is ∙ c.requires.free) in
    still_free i.rows c.reserve.new.self i.slots c.home_of.new.slots i.reaches c.home_of.new.reaches i.lists i.lists i.change none c.reserve.ensures.entries c.home_of.ensures.grown.programs c.home_of.ensures.grown.counts c.home_of.ensures.grown.more
    c.self.invariant.0 (listed_room i.rows.entries i.slots.slots c.home_of.new.slots.slots i.reaches.ends i.lists i.change none c.home_of.ensures.grown.programs c.self.invariant.0)

pub invariant_of-self-in_err-reserve-2 : goal.invariant_of-self-in_err-reserve-2
invariant_of-self-in_err-reserve-2 c =
    let i = c.self.inside in
    let none = planned_none i.slots.slots i.rows.entries i.change (ap (λ (s : Standing). s.next) c.self.view_is ∙ c.requires.free) in
    let more = c.home_of.ensures.grown.more in
    let long = c.reserve-2.ensures.numbers in
    still_free i.rows c.reserve.new.self i.slots c.home_of.new.slots i.reaches c.reserve-2.new.self i.lists i.lists i.change none c.reserve.ensures.entries c.home_of.ensures.grown.programs (λ m q. c.reserve-2.ensures.counts m q ∙ c.home_of.ensures.grown.counts m q) (omega arith)
    c.self.invariant.0 (listed_room i.rows.entries i.slots.slots c.home_of.new.slots.slots i.reaches.ends i.lists i.change none c.home_of.ensures.grown.programs c.self.invariant.0)

pub returns-in_err-reserve-2-clause-now : goal.returns-in_err-reserve-2-clause-now
returns-in_err-reserve-2-clause-now c =
    installed_slots c.self.inside.slots.slots c.home_of.new.slots.slots c.reserve.new.self.entries c.home_of.ensures.grown.programs
    ∙ (ap (installed c.self.inside.slots.slots) c.reserve.ensures.entries ∙ ap (λ (s : Standing). s.now) c.self.view_is)

pub start-requires-clause-begins : goal.start-requires-clause-begins
start-requires-clause-begins c =
    c.in_ok-home.ensures.home.begins

pub start-requires-clause-apart : goal.start-requires-clause-apart
start-requires-clause-apart c =
    let i = c.self.inside in
    (booked_same i.rows.entries i.rows.entries i.slots.slots c.home_of.new.slots.slots i.reaches.ends c.home_of.new.reaches.ends refl c.home_of.ensures.grown.programs c.home_of.ensures.grown.counts c.home_of.ensures.grown.more c.self.invariant.0.booked).apart

pub start-requires-clause-runs : goal.start-requires-clause-runs
start-requires-clause-runs c =
    let i = c.self.inside in
    let none = planned_none i.slots.slots i.rows.entries i.change (ap (λ (s : Standing). s.next) c.self.view_is ∙ c.requires.free) in
    (listed_room i.rows.entries i.slots.slots c.home_of.new.slots.slots i.reaches.ends i.lists i.change none c.home_of.ensures.grown.programs c.self.invariant.0).run

pub invariant_of-self-in_err-start : goal.invariant_of-self-in_err-start
invariant_of-self-in_err-start c =
    let i = c.self.inside in
    let none = planned_none i.slots.slots i.rows.entries i.change (ap (λ (s : Standing). s.next) c.self.view_is ∙ c.requires.free) in
    let more = c.home_of.ensures.grown.more in
    let long = c.reserve-2.ensures.numbers in
    let slots = c.home_of.new.slots.slots in
    let listed = listed_room i.rows.entries i.slots.slots slots i.reaches.ends i.lists i.change none c.home_of.ensures.grown.programs c.self.invariant.0 in
    let lists : Lists = record i.lists { running = c.start.new.running } in
    still_free i.rows c.reserve.new.self i.slots c.home_of.new.slots i.reaches c.reserve-2.new.self i.lists lists i.change none c.reserve.ensures.entries c.home_of.ensures.grown.programs (λ m q. c.reserve-2.ensures.counts m q ∙ c.home_of.ensures.grown.counts m q) (omega arith)
    c.self.invariant.0 (record { run = those_same i.lists.running c.start.new.running (Runs (slot_at slots)) c.in_err-start.ensures.undone listed.run; rest = listed.rest })

pub returns-in_err-start-clause-now : goal.returns-in_err-start-clause-now
returns-in_err-start-clause-now c =
    installed_slots c.self.inside.slots.slots c.home_of.new.slots.slots c.reserve.new.self.entries c.home_of.ensures.grown.programs
    ∙ (ap (installed c.self.inside.slots.slots) c.reserve.ensures.entries ∙ ap (λ (s : Standing). s.now) c.self.view_is)

pub invariant_of-self-2 : goal.invariant_of-self-2
invariant_of-self-2 c =
    let i = c.self.inside in
    let none = planned_none i.slots.slots i.rows.entries i.change (ap (λ (s : Standing). s.next) c.self.view_is ∙ c.requires.free) in
    let rows = i.rows.entries in
    let slots = c.home_of.new.slots.slots in
    let ends = c.reserve-2.new.self.ends in
    let more = c.home_of.ensures.grown.more in
    let long = c.reserve-2.ensures.numbers in
    let counts : (m q : ℕ) → reach_at ends m q ≡ reach_at i.reaches.ends m q = λ m q. c.reserve-2.ensures.counts m q ∙ c.home_of.ensures.grown.counts m q in
    let booked = booked_same rows c.reserve.new.self.entries i.slots.slots slots i.reaches.ends ends c.in_ok-reserve.ensures.entries c.home_of.ensures.grown.programs counts (omega arith) c.self.invariant.0.booked in
    let last = last_rows i.slots.slots rows c.reserve.new.self.entries c.args.self.now.now c.args.id c.in_ok-reserve.ensures.entries (ap (λ (s : Standing). s.now) c.self.view_is) c.requires.last in
    let order = c.len-count.ensures.order in
    let few = rows_few rows c.args.id order (λ e at. last e (subst (λ (es : List (ℕ × Row)). Contains es e) (sym c.in_ok-reserve.ensures.entries) at)) in
    let below = c.requires.below in
    let short : length c.reserve.new.self.entries < 4294967295 = let same = ap (length {A = ℕ × Row}) c.in_ok-reserve.ensures.entries in omega (arith, few, below, same) in
    let h = c.in_ok-home.ensures.home in
    let number = c.in_ok-home.home.number in
    let program = c.in_ok-home.home.program in
    let inside = h.number in
    let listed = listed_room rows i.slots.slots slots i.reaches.ends i.lists i.change none c.home_of.ensures.grown.programs c.self.invariant.0 in
    let lists : Lists = record i.lists { running = c.start.new.running } in
    subst (λ (x : Change). IsKept c.reserve.new.self.entries slots ends lists (Some x) × IsPlanned c.reserve.new.self c.home_of.new.slots c.reserve-2.new.self (Some x)) (sym c.coming.ensures) (
      record {
        booked = booked;
        listed = come_planned slots number program h.begins i.lists.running c.start.new.running i.lists.resting listed c.in_ok-start.ensures.done;
        ids = subst AreIds (sym c.in_ok-reserve.ensures.entries) c.self.invariant.0.ids;
      },
      record {
        ready = c.in_ok-reserve.ensures.ready;
        last = last;
        below = omega (arith, below);
        held = refl;
        begins = h.begins;
        room = room_in c.reserve.new.self.entries slots ends number program booked h.begins short;
        slot = h.inside;
        number = omega (arith, inside, long);
        reach = record { room = λ _. c.in_ok-reserve-2.ensures.room; fits = λ _. reach_fits c.reserve.new.self.entries slots ends ends number c.args.endpoint booked (λ m q. refl) short };
      },
    )
