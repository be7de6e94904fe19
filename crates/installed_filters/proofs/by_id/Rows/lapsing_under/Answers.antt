use Rattle.std.proofs.Common.{◌≡◌, ◌∙◌, ℕ, List, ap, subst}
use Rattle.std.specs.List.Sorted.{IsStrictlyIncreasing}
use Rattle.std.specs.Map.{keys_of}
use Rattle.std.specs.Result.{IfOk}
use Rattle.chunked.specs.Maps.{SortedMap}
use Rattle.installed_filters.specs.declared.books.Row.{Row}
use Rattle.installed_filters.proofs.Under.{Finding, finding-begins, finding-ends, finding-lacks, finding-more}
use Rattle.installed_filters.proofs.by_id.Rows.lapsing_under.Goals as goal

pub loop-entry-init : goal.loop-entry-init
loop-entry-init c =
    finding-begins c.args.self.now.entries c.args.gone.now.entries c.into_iter-entry-iterator.result c.new-lapsing.result.entries c.iter-entry-items.ensures.order (c.into_iter-entry-iterator.ensures.into_iter_gives ∙ c.iter-entry-items.ensures.entries)
    (ap (λ (m : SortedMap Row). m.entries) c.new-lapsing.ensures)

pub add_held-requires : goal.add_held-requires
add_held-requires c =
    let p = subst (Finding c.args.self.now.entries c.args.gone.now.entries c.loop-entry.lapsing.entries) c.in-Some.ensures.steps c.loop-entry.invariant in
    record { absent = finding-lacks c.args.self.now.entries c.args.gone.now.entries c.loop-entry.lapsing.entries c.in-Some.entry.now c.next.new.self p }

pub loop-entry-preserved : goal.loop-entry-preserved
loop-entry-preserved c =
    let p = subst (Finding c.args.self.now.entries c.args.gone.now.entries c.loop-entry.lapsing.entries) c.in-Some.ensures.steps c.loop-entry.invariant in
    finding-more c.args.self.now.entries c.args.gone.now.entries c.loop-entry.lapsing.entries c.in-Some.entry.now c.next.new.self p c.add_held.new.held.entries c.in_ok-add_held.ensures

pub returns : goal.returns
returns c =
    let is = finding-ends c.args.self.now.entries c.args.gone.now.entries c.loop-entry.lapsing.entries c.loop-entry.entry-iterator
    (subst (λ (m : SortedMap Row). IsStrictlyIncreasing (keys_of m.entries)) c.self.view_is c.len-count.ensures.order) c.listed.ensures.order c.loop-entry.invariant c.in-None.ensures.steps.0 in
    subst (λ (es : List (ℕ × Row)). IfOk c.listed.result (λ list. list.items ≡ es)) is c.listed.ensures.list
