use Rattle.std.proofs.Common.{◌≡◌, ◌∙◌, ◌+◌, arith, get_or, List, ℕ, sym, subst, ap, min}
use Rattle.filter_table.specs.declared.delivery.Kept.{Kept}
use Rattle.filter_table.proofs.Lists.{get_some}
use Rattle.filter_table.specs.Raising.{at_endpoint, raised}
use Rattle.installed_filters.specs.Keeping.{AreKept, IsRaisedBefore}
use Rattle.installed_filters.proofs.Gathered.{raised_none, raised_more, raised_all}
use Rattle.installed_filters.proofs.gathering.keep_each.Goals as goal

pub loop-raise-init : goal.loop-raise-init
loop-raise-init c = subst (λ (ks : List Kept). AreKept (IsRaisedBefore c.args.raises.now 0) c.args.captured ks) (sym c.clear.ensures.items) (raised_none c.args.raises.now c.args.captured)

pub returns : goal.returns
returns c = raised_all c.args.raises.now c.args.captured c.loop-raise.raise-index c.loop-raise.kept.items c.loop-raise-test.false c.loop-raise.invariant

abbrev nothing : Kept
nothing = at_endpoint 0 0

pub loop-raise-preserved : goal.loop-raise-preserved
loop-raise-preserved c =
    let raises = c.args.raises.now in
    let one = get_or raises c.loop-raise.raise-index nothing in
    let at = get_some raises c.loop-raise.raise-index nothing (omega (arith, c.loop-raise-test.true)) in
    let is = c.in_ok-raise_within.ensures ∙ ap (raised c.loop-raise.kept.items one.endpoint) c.min-most.ensures in
    subst (λ (ks : List Kept). AreKept (IsRaisedBefore raises (c.loop-raise.raise-index + 1)) c.args.captured ks) (sym is)
    (raised_more raises c.args.captured c.loop-raise.raise-index one.endpoint one.kept c.loop-raise.kept.items at c.loop-raise.invariant)
