use Rattle.std.proofs.Common.{◌≤◌, List, ℕ, length, subst, sym}
use Rattle.std.specs.List.{insert}
use Rattle.filter_group.specs.Answers.{AreAbove, AreAtMost}
use Rattle.filter_group.specs.Falling.{AreWithFall}
use Rattle.filter_group.proofs.Falling.{changed_list, listed_fall}
use Rattle.filter_group.proofs.falls.list_fall.Goals as goal

pub returns-then-is_fall-clause-falls : goal.returns-then-is_fall-clause-falls
returns-then-is_fall-clause-falls c =
    let xs = c.args.constants.now.items in
    let falls = c.args.falls.now.items in
    let fall = c.is_fall.ensures.0 c.if-is_fall.true in
    let count = c.count_to-count.result in
    let is = c.deref.ensures.value in
    let within = subst (λ (fs : List ℕ). count ≤ length fs) is c.count_to-count.ensures.within in
    let low = subst (λ (fs : List ℕ). AreAtMost fs c.args.place 0 count) is c.count_to-count.ensures.low in
    let high = subst (λ (fs : List ℕ). AreAbove fs c.args.place count (length fs)) is c.count_to-count.ensures.high in
    subst (AreWithFall xs c.args.place falls) (sym (changed_list c.insert.result (insert falls count c.args.place) falls c.insert.new.self.items (c.insert.ensures.succeeds (c.requires.room fall)) c.insert.ensures.items))
    (listed_fall xs falls c.args.place count c.requires.order within low high fall.0)
