use Rattle.std.proofs.Common.{◌∙◌, List, ℕ, Some, ap, arith, map, refl, subst}
use Rattle.installed_filters.specs.declared.books.Row.{Row}
use Rattle.installed_filters.specs.declared.lists.Lists.{Lists}
use Rattle.installed_filters.specs.Slotting.{slot_at}
use Rattle.installed_filters.specs.Listing.{AreListedFor}
use Rattle.installed_filters.specs.Lapsing.{lapses, slots_lapsed}
use Rattle.installed_filters.specs.Installed.{Standing, lapsed_under}
use Rattle.installed_filters.proofs.Lapsed.{counted_held, held_rows, lapsed_alike, lapses_held}
use Rattle.installed_filters.proofs.Planned.{listed_free, planned_none, still_free}
use Rattle.installed_filters.proofs.Rested.{lapse_planned}
use Rattle.installed_filters.proofs.filters.Filters.prepare_lapse.Goals as goal

pub rest_all-requires-clause-held : goal.rest_all-requires-clause-held
rest_all-requires-clause-held c =
    let gone = c.args.gone.now.entries in
    counted_held c.self.inside.rows.entries c.deref.result.now c.self.inside.slots.slots c.self.inside.reaches.ends (lapses gone) (lapses_held gone) c.self.invariant.0.booked (c.deref.ensures.value ∙ c.in_ok-lapsing.ensures)

pub rest_all-requires-clause-rests : goal.rest_all-requires-clause-rests
rest_all-requires-clause-rests c =
    let i = c.self.inside in
    let none = planned_none i.slots.slots i.rows.entries i.change (ap (λ (s : Standing). s.next) c.self.view_is ∙ c.requires.free) in
    (listed_free i.rows.entries i.slots.slots i.reaches.ends i.lists i.change none c.self.invariant.0).rest

pub invariant_of-self : goal.invariant_of-self
invariant_of-self c =
    let i = c.self.inside in
    let none = planned_none i.slots.slots i.rows.entries i.change (ap (λ (s : Standing). s.next) c.self.view_is ∙ c.requires.free) in
    let lists : Lists = record i.lists { resting = c.rest_all.new.resting } in
    let listed = listed_free i.rows.entries i.slots.slots i.reaches.ends i.lists i.change none c.self.invariant.0 in
    still_free i.rows i.rows i.slots i.slots i.reaches i.reaches i.lists lists i.change none refl (λ m. refl) (λ m q. refl) (omega arith) c.self.invariant.0 (record { run = listed.run; rest = c.in_err-rest_all.ensures.undone })

pub invariant_of-self-2 : goal.invariant_of-self-2
invariant_of-self-2 c =
    let i = c.self.inside in
    let none = planned_none i.slots.slots i.rows.entries i.change (ap (λ (s : Standing). s.next) c.self.view_is ∙ c.requires.free) in
    let gone = c.args.gone.now.entries in
    let listed = listed_free i.rows.entries i.slots.slots i.reaches.ends i.lists i.change none c.self.invariant.0 in (
      record {
        booked = c.self.invariant.0.booked;
        listed = subst (λ (es : List (ℕ × Row)). AreListedFor (slot_at i.slots.slots) (slots_lapsed i.slots.slots es) i.lists.running c.rest_all.new.resting) c.deref.ensures.value
            (lapse_planned i.slots.slots c.deref.result.now i.lists.running c.rest_all.new.resting listed.run c.in_ok-rest_all.ensures.done);
        ids = c.self.invariant.0.ids;
      },
      held_rows i.rows.entries c.in_ok-lapsing.lapsing.items (lapses gone) (lapses_held gone) c.len-count.ensures.order c.in_ok-lapsing.ensures,
    )

pub returns-clause-planned : goal.returns-clause-planned
returns-clause-planned c =
    let gone = c.args.gone.now.entries in
    ap Some (lapsed_alike gone c.self.inside.slots.slots c.self.inside.rows.entries c.in_ok-lapsing.lapsing.items c.len-count.ensures.order c.in_ok-lapsing.ensures
    ∙ ap (λ (s : Standing). map (lapsed_under gone) s.now) c.self.view_is)
