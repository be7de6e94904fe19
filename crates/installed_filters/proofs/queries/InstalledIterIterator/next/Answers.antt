use Rattle.std.proofs.Common.{arith}
use Rattle.installed_filters.proofs.Different.{first_lendable, lendable_rest, none_lendable}
use Rattle.installed_filters.proofs.queries.InstalledIterIterator.next.Goals as goal
use Rattle.installed_filters.proofs.queries.InstalledIterIterator.next.Goals.{in-Some, in-None}

pub overflow_cast-entry : goal.overflow_cast-entry
overflow_cast-entry c =
    let low = first_lendable c.self.inside.slots.now.slots c.self.inside.rows c.next.new.self c.in-Some.entry.now c.in-Some.ensures.steps c.self.invariant in
    omega arith

pub invariant_of-self : goal.invariant_of-self
invariant_of-self c = elim c.match-next.branch [
  | in-Some w ↦ lendable_rest c.self.inside.slots.now.slots c.self.inside.rows c.next.new.self w.in-Some.entry.now w.in-Some.ensures.steps c.self.invariant
  | in-None w ↦ none_lendable c.self.inside.slots.now.slots c.next.new.self w.in-None.ensures.steps.1
]
