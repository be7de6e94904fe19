use Rattle.std.proofs.Common.{◌≡◌, ◌+◌, [], List, ℕ, ap, drop, false, get_or, subst, sym}
use Rattle.std.proofs.lemmas.List.{drop_all, drop_more}
use Rattle.std.proofs.lemmas.List.Elements.{Contains-get_or}
use Rattle.chunked.specs.Maps.{SortedMap}
use Rattle.installed_filters.specs.declared.books.Row.{Row}
use Rattle.installed_filters.specs.Lapsing.{AreRestingOr}
use Rattle.installed_filters.proofs.Exchanged.{on_err}
use Rattle.installed_filters.proofs.Rested.{AreCountedSo, counted_all, counted_begins, counted_more, counted_none, counted_some, holds_more}
use Rattle.installed_filters.proofs.lapsing.rest_each.Goals as goal

abbrev no_row : ℕ × Row
no_row = (0, record { owner = 0; cap = 0; endpoint = 0; held = false; number = 0 })

pub loop-entry-init : goal.loop-entry-init
loop-entry-init c =
    let none : c.new-counts.result.entries ≡ [] = ap (λ (m : SortedMap ℕ). m.entries) c.new-counts.ensures in
    record {
      counted = counted_none c.new-counts.result.entries c.args.lapsing.now none;
      rests = counted_begins c.args.slots.now.slots c.new-counts.result.entries c.args.resting.now none c.requires.rests;
    }

pub one_fewer-requires-clause-more : goal.one_fewer-requires-clause-more
one_fewer-requires-clause-more c =
    let all = c.args.lapsing.now in
    let k = c.loop-entry.entry-index in
    let e = get_or all k no_row in
    let s = c.requires.held e (Contains-get_or all k no_row c.loop-entry-test.true) in
    holds_more c.args.slots.now.slots c.loop-entry.counts.entries e (drop (k + 1) all) all s.0 s.1 s.2
    (subst (λ (es : List (ℕ × Row)). AreCountedSo c.loop-entry.counts.entries es all) (drop_more all k no_row c.loop-entry-test.true) c.loop-entry.invariant.counted)

pub loop-entry-preserved : goal.loop-entry-preserved
loop-entry-preserved c =
    let all = c.args.lapsing.now in
    let k = c.loop-entry.entry-index in
    let e = get_or all k no_row in
    record {
      counted = counted_more c.loop-entry.counts.entries c.one_fewer.new.counts.entries e (drop (k + 1) all) all c.in_ok-one_fewer.ensures.counts
          (subst (λ (es : List (ℕ × Row)). AreCountedSo c.loop-entry.counts.entries es all) (drop_more all k no_row c.loop-entry-test.true) c.loop-entry.invariant.counted);
      rests = c.in_ok-one_fewer.ensures.rests;
    }

pub returns-in_err-one_fewer-clause-some : goal.returns-in_err-one_fewer-clause-some
returns-in_err-one_fewer-clause-some c =
    let all = c.args.lapsing.now in
    let k = c.loop-entry.entry-index in
    on_err c.from_residual.result (AreRestingOr c.args.slots.now.slots all c.one_fewer.new.resting)
    (subst (AreRestingOr c.args.slots.now.slots all) (sym c.in_err-one_fewer.ensures.undone)
    (counted_some c.args.slots.now.slots c.loop-entry.counts.entries (drop k all) all c.loop-entry.resting c.loop-entry.invariant.counted c.loop-entry.invariant.rests))

pub returns-clause-done : goal.returns-clause-done
returns-clause-done c =
    let all = c.args.lapsing.now in
    let k = c.loop-entry.entry-index in
    counted_all c.args.slots.now.slots c.loop-entry.counts.entries (drop k all) all c.loop-entry.resting (drop_all k all c.loop-entry-test.false) c.loop-entry.invariant.counted c.loop-entry.invariant.rests
