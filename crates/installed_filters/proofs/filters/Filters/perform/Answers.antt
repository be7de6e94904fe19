use Rattle.std.proofs.Common.{◌≡◌, ◌∙◌, Some, ap, subst, sym}
use Rattle.installed_filters.specs.Installed.{Standing}
use Rattle.installed_filters.specs.Planning.{IsKept, IsPlanned}
use Rattle.installed_filters.proofs.Planned.{next_done, planned_free}
use Rattle.installed_filters.proofs.filters.Filters.perform.Goals as goal

pub carry_out-requires-clause-planned : goal.carry_out-requires-clause-planned
carry_out-requires-clause-planned c =
    let taken = c.take.ensures.value in
    let some = c.in-Some.is in
    let is : c.self.inside.change ≡ Some c.in-Some.change = cc in
    subst (IsPlanned c.self.inside.rows c.self.inside.slots c.self.inside.reaches) is c.self.invariant.1

pub carry_out-requires-clause-kept : goal.carry_out-requires-clause-kept
carry_out-requires-clause-kept c =
    let taken = c.take.ensures.value in
    let some = c.in-Some.is in
    let is : c.self.inside.change ≡ Some c.in-Some.change = cc in
    subst (IsKept c.self.inside.rows.entries c.self.inside.slots.slots c.self.inside.reaches.ends c.self.inside.lists) is c.self.invariant.0

pub invariant_of-self : goal.invariant_of-self
invariant_of-self c = (
  subst (IsKept c.carry_out.new.rows.entries c.carry_out.new.slots.slots c.carry_out.new.reaches.ends c.carry_out.new.lists) (sym c.take.ensures.after) c.carry_out.ensures.kept,
  planned_free c.carry_out.new.rows c.carry_out.new.slots c.carry_out.new.reaches c.take.new.self c.take.ensures.after,
)

pub returns-clause-now : goal.returns-clause-now
returns-clause-now c = λ next planned.
    let taken = c.take.ensures.value in
    let some = c.in-Some.is in
    let is : c.self.inside.change ≡ Some c.in-Some.change = cc in
    next_done c.self.inside.slots.slots c.self.inside.rows.entries c.self.inside.change c.in-Some.change _ next is c.carry_out.ensures.filters (ap (λ (s : Standing). s.next) c.self.view_is ∙ planned)
