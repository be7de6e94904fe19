use Rattle.std.proofs.Common.{refl, subst}
use Rattle.core_loop.specs.Cores.{CoreState, NothingDone, DidOne}
use Rattle.core_loop.specs.Turning.{IsSpent, LacksMemory, HasWork}
use Rattle.core_machine.proofs.recorded.Recorded.turn.Goals as goal

pub returns-in-Did-clause-did : goal.returns-in-Did-clause-did
returns-in-Did-clause-did g c = λ _. (
  c.in-Did.event,
  subst (λ (old : CoreState g.row.L.Denot). DidOne g.L.Links.view old c.turn.new.self c.in-Did.event) c.self.view_is (c.in-Did.ensures.did c.in-Did.event c.in-Did.decision refl),
  c.in-Did.ensures.leave c.in-Did.event c.in-Did.decision refl,
)

pub returns-in-Idle-clause-idle_message : goal.returns-in-Idle-clause-idle_message
returns-in-Idle-clause-idle_message g c = λ _. c.in-Idle.ensures.idle_message refl

pub returns-in-Stopped-clause-other : goal.returns-in-Stopped-clause-other
returns-in-Stopped-clause-other g c = λ _. subst (λ (old : CoreState g.row.L.Denot). NothingDone g.L.Links.view old c.turn.new.self) c.self.view_is (c.in-Stopped.ensures.other (λ s d is. absurd (cc)))

pub returns-in-Spent-clause-spent : goal.returns-in-Spent-clause-spent
returns-in-Spent-clause-spent g c = λ _.
    subst (λ (old : CoreState g.row.L.Denot). IsSpent old.cores old.clock old.part old.pending (g.L.Links.view c.turn.new.self.links) c.args.rx c.turn.new.self.intake) c.self.view_is (c.in-Spent.ensures.spent refl)

pub returns-in-NoMemory-clause-lacks : goal.returns-in-NoMemory-clause-lacks
returns-in-NoMemory-clause-lacks g c = λ _.
    subst (λ (old : CoreState g.row.L.Denot). LacksMemory old.cores old.clock old.part old.pending (g.L.Links.view c.turn.new.self.links) c.args.rx c.turn.new.self.intake) c.self.view_is (c.in-NoMemory.ensures.lacks refl)

pub returns-in-NoMemory-clause-no_memory : goal.returns-in-NoMemory-clause-no_memory
returns-in-NoMemory-clause-no_memory g c = λ _.
    subst (λ (old : CoreState g.row.L.Denot). HasWork old.cores old.part old.pending (g.L.Links.view c.turn.new.self.links) c.args.rx c.turn.new.self.intake) c.self.view_is (c.in-NoMemory.ensures.no_memory refl)
