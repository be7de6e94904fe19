use Rattle.std.proofs.Common.{None, refl}
use Rattle.two_phase.specs.Coordinators.{coordinator_place}
use Rattle.core_steps.proofs.Sending.{start_sent}
use Rattle.core_steps.proofs.core0.Core0.begin.Goals as goal

pub returns-clause-starts : goal.returns-clause-starts
returns-clause-starts c = λ op was.
    let e = c.begin-step.ensures in
    let b = e.starts op was in
    record {
      committed = b.0;
      here = record { can_start = c.requires.can.can; starts = b.1; is_answer = c.answer_to_start.ensures };
      same_requests = e.same_requests;
      moves = record { shown_next = b.2; same_budget = e.budget; same_others = e.others; between = record { staged = e.staged; sendable = rw e.same_requests c.requires.can.sendable } };
    }

pub returns-clause-sends : goal.returns-clause-sends
returns-clause-sends c = λ op was.
    let e = c.begin-step.ensures in
    let b = e.starts op was in
    start_sent c.args.self.now c.args.self.now.replica.shown c.args.self.now.replica.budget (coordinator_place c.args.self.now.coordinator None) _ op b.0 c.begin-step.result c.args.refusal b.1 refl e.asks
