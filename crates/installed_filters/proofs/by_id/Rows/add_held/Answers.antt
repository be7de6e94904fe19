use Rattle.std.proofs.Common.{◌∙◌, ◌*◌, ◌∷◌, sym, subst, arith}
use Rattle.chunked.specs.Maps.{SortedMap}
use Rattle.installed_filters.specs.declared.books.Row.{Row}
use Rattle.installed_filters.specs.Under.{ids, AddsHeld, LacksHeld}
use Rattle.installed_filters.proofs.Under.{Gathering, gathering-absent, gathering-all, gathering-begins, gathering-more, gathering-none, gathering-other}
use Rattle.installed_filters.proofs.by_id.Rows.add_held.Goals as goal

pub returns-then-cap-ge-IDS : goal.returns-then-cap-ge-IDS
unfolding ids
returns-then-cap-ge-IDS c =
    let old = c.args.held.now.entries in
    subst (λ (m : SortedMap Row). AddsHeld c.args.cap m.entries old old) c.self.view_is (gathering-none c.self.inside.rows.entries c.self.inside.under.entries c.args.cap old c.self.invariant c.if-cap-ge-IDS.true)

pub loop-entry-init : goal.loop-entry-init
unfolding ids
loop-entry-init c =
    subst (λ (m : SortedMap Row). Gathering m.entries c.args.cap c.args.held.now.entries c.args.held.now.entries c.into_iter-entry-iterator.result) c.self.view_is
    (gathering-begins c.self.inside.rows.entries c.self.inside.under.entries c.args.cap (c.args.cap * 4294967296) c.args.held.now.entries c.into_iter-entry-iterator.result c.self.invariant c.iter_from-entry-items.ensures.order
    (omega arith) (c.into_iter-entry-iterator.ensures.into_iter_gives ∙ c.iter_from-entry-items.ensures.entries))

pub returns-then-entry-cap : goal.returns-then-entry-cap
unfolding ids
returns-then-entry-cap c =
    let old = c.args.held.now.entries in
    let now = c.loop-entry.held.entries in
    let p = subst (Gathering c.args.self.now.entries c.args.cap old now) c.in-Some.ensures.steps c.loop-entry.invariant in
    subst (λ (m : SortedMap Row). AddsHeld c.args.cap m.entries old now) c.self.view_is
    (gathering-other c.self.inside.rows.entries c.self.inside.under.entries c.args.cap old now c.in-Some.entry.now c.next.new.self c.self.invariant
    (subst (λ (m : SortedMap Row). Gathering m.entries c.args.cap old now (c.in-Some.entry.now ∷ c.next.new.self)) (sym c.self.view_is) p) c.if-entry-cap.true)

pub add_if_held-requires : goal.add_if_held-requires
unfolding ids
add_if_held-requires c = record {
  absent = λ held.
      let old = c.args.held.now.entries in
      let now = c.loop-entry.held.entries in
      let p = subst (λ (m : SortedMap Row). Gathering m.entries c.args.cap old now (c.in-Some.entry.now ∷ c.next.new.self)) (sym c.self.view_is) (subst (Gathering c.args.self.now.entries c.args.cap old now) c.in-Some.ensures.steps c.loop-entry.invariant) in
      gathering-absent c.self.inside.rows.entries c.args.cap old now c.in-Some.entry.now c.next.new.self p c.if-entry-cap.false
      (subst (λ (m : SortedMap Row). LacksHeld c.args.cap m.entries old) (sym c.self.view_is) c.requires.absent) held;
}

pub loop-entry-preserved : goal.loop-entry-preserved
unfolding ids
loop-entry-preserved c =
    let old = c.args.held.now.entries in
    let now = c.loop-entry.held.entries in
    let p = subst (λ (m : SortedMap Row). Gathering m.entries c.args.cap old now (c.in-Some.entry.now ∷ c.next.new.self)) (sym c.self.view_is) (subst (Gathering c.args.self.now.entries c.args.cap old now) c.in-Some.ensures.steps c.loop-entry.invariant) in
    subst (λ (m : SortedMap Row). Gathering m.entries c.args.cap old c.add_if_held.new.held.entries c.next.new.self) c.self.view_is
    (gathering-more c.self.inside.rows.entries c.args.cap old now c.in-Some.entry.now c.next.new.self p c.if-entry-cap.false c.add_if_held.new.held.entries c.in_ok-add_if_held.ensures)

pub returns : goal.returns
returns c = gathering-all c.args.self.now.entries c.args.cap c.args.held.now.entries c.loop-entry.held.entries c.loop-entry.entry-iterator c.loop-entry.invariant c.in-None.ensures.steps.0
