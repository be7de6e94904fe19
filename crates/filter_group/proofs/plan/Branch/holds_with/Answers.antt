use Rattle.std.proofs.Common.{List, Option, subst}
use Rattle.filter_group.specs.declared.start.Start.{Start}
use Rattle.filter_group.specs.Planning.{GoesOn, HasStart}
use Rattle.filter_group.proofs.KeptPlan.{no_second, second_is, still_fits, still_serves}
use Rattle.filter_group.proofs.plan.Branch.holds_with.Goals as goal

pub returns-in-None : goal.returns-in-None
returns-in-None c = λ done packet values count goes.
    let self = c.args.self.now in
    let part = c.args.part.now in
    let group = c.args.group in
    let has : HasStart self.starts.items group c.args.start = subst (λ (xs : List Start). HasStart xs group c.args.start) c.deref.ensures.value (c.has_start.ensures c.if-not-has_start.false) in
    still_serves part group packet values self (still_fits part group packet values self.starts.items c.args.start has goes) (no_second part group packet values self.second c.in-None.is)

pub returns-in-None-start : goal.returns-in-None-start
returns-in-None-start c = λ done packet values count goes.
    let self = c.args.self.now in
    let part = c.args.part.now in
    let group = c.args.group in
    let has : HasStart self.starts.items group c.args.start = subst (λ (xs : List Start). HasStart xs group c.args.start) c.deref.ensures.value (c.has_start.ensures c.if-not-has_start.false) in
    still_serves part group packet values self (still_fits part group packet values self.starts.items c.args.start has goes)
    (second_is part group packet values self.second c.in-Some.second c.in-Some.is
    (c.is_without.ensures done part packet values (subst (λ (o : Option Start). GoesOn part packet values o) c.in-None-start.is goes)))

pub returns-in-Some-start : goal.returns-in-Some-start
returns-in-Some-start c = λ done packet values count goes.
    let self = c.args.self.now in
    let part = c.args.part.now in
    let group = c.args.group in
    let has : HasStart self.starts.items group c.args.start = subst (λ (xs : List Start). HasStart xs group c.args.start) c.deref.ensures.value (c.has_start.ensures c.if-not-has_start.false) in
    still_serves part group packet values self (still_fits part group packet values self.starts.items c.args.start has goes)
    (second_is part group packet values self.second c.in-Some.second c.in-Some.is
    (c.holds_with.ensures done packet values count (subst (λ (o : Option Start). GoesOn part packet values o) c.in-Some-start.is goes)))
