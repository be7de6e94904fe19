use Rattle.std.proofs.Common.{◌≡◌, ◌-◌, None, Some, slice_get, ap, arith}
use Rattle.two_phase.specs.Coordinators.{CoordinatorState}
use Rattle.monitor_2pc.specs.Waiting.{phase_of}
use Rattle.monitor_2pc.proofs.Starts.{starts_for_decided, starts_for_asked, asked_keeps}
use Rattle.monitor_2pc.proofs.coordinator.Coordinator.begin_for.Goals as goal
use Rattle.monitor_2pc.proofs.coordinator.Coordinator.begin_for.Goals.{in-Some-decided, in-None}

pub invariant_of-self-in-None : goal.invariant_of-self-in-None
invariant_of-self-in-None c =
    let w = c.requires.waits in
    let b = c.begin-begun.ensures.starts w.1 w.4 in
    let i = c.self-2.inside in (
      c.self-2.invariant.0,
      c.self-2.invariant.1,
      asked_keeps _ _ _ _ w.1 c.begin-begun.new.self c.begin-begun.new.replica.staged b.0 c.begin-begun.result i.last i.wait i.votes i.acks i.waiting i.asker (Some c.args.from) i.decided
          b.1 c.in-None.is c.self-2.view_is c.self-2.invariant.2,
    )

pub returns-clause-starts : goal.returns-clause-starts
returns-clause-starts c =
    let w = c.requires.waits in
    let i = c.self.inside in
    let j = c.self-2.inside in
    let entry : c.from-entry.result - 1 ≡ w.0 = omega (arith, w.2, c.from-entry.ensures) in
    let list : c.self.inside.waiting ≡ c.args.self.now.requests.waiting = ap (λ (o : CoordinatorState). o.requests.waiting) c.self.view_is in
    let there : slice_get c.self.inside.waiting (c.from-entry.result - 1) ≡ Some (Some w.1) = rw (list, entry) w.3 in
    let b = c.begin-begun.ensures.starts w.1 w.4 in
    elim c.match-begun.branch [
      | in-Some-decided v ↦ starts_for_decided c.args.replica.now.shown c.args.replica.now.budget i.last i.wait i.votes i.acks i.waiting c.take_out.new.self i.asker i.decided
          c.args.self.now c.begin-begun.new.self c.match-begun.self None c.begin-begun.new.replica.staged c.args.from c.from-entry.result w.1 c.begin-begun.result c.match-begun.begun c.begin-begun.new.replica.shown v.in-Some-decided.decision
          c.self.view_is c.requires.can.0 c.self.invariant.2 (omega (arith, w.2)) c.from-entry.ensures there c.in-Some.ensures.out b c.begin-begun.ensures.same_requests v.in-Some-decided.is v.begun-is v.self-is
      | in-None v ↦ starts_for_asked c.args.replica.now.shown c.args.replica.now.budget i.last i.wait i.votes i.acks i.waiting c.take_out.new.self i.asker i.decided
          c.args.self.now c.begin-begun.new.self c.match-begun.self None c.begin-begun.new.replica.staged c.args.from c.from-entry.result w.1 c.begin-begun.result c.match-begun.begun c.begin-begun.new.replica.shown
          j.last (phase_of j.wait j.votes j.acks) j.waiting j.asker j.decided
          c.self.view_is c.requires.can.0 c.self.invariant.2 (omega (arith, w.2)) c.from-entry.ensures there c.in-Some.ensures.out b c.begin-begun.ensures.same_requests v.in-None.is v.begun-is c.self-2.view_is v.self-is
    ]
