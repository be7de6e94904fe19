use Rattle.std.proofs.Common.{rules, ◌≡◌, ◌+◌, ℕ, None, Some, length, replicate, refl, sym, ap, ◌∙◌}
use Rattle.two_phase.specs.Coordinators.{Phase, Idle, CoordinatorState, coordinator_place, prepared, veto_of}
use Rattle.monitor_2pc.specs.Starting.{WasStaged}
use Rattle.monitor_2pc.specs.Waiting.{phase_of}
use Rattle.monitor_2pc.proofs.Starts.{starts_refused, starts_alone, placed}
use Rattle.monitor_2pc.proofs.coordinator.Coordinator.begin.Goals as goal

pub returns-in-Some-clause-starts : goal.returns-in-Some-clause-starts
returns-in-Some-clause-starts c = λ op was.
    let w : WasStaged c.args.replica.now op (Some c.in-Some.fault) = rw c.in-Some.is at was in
    let r = starts_refused c.args.self.now.others c.args.replica.now.shown c.args.replica.now.budget op None c.in-Some.fault
    (coordinator_place c.args.self.now None) (coordinator_place c.args.self.now c.args.replica.now.staged) (veto_of c.in-Some.fault) c.self.inside.last
    refl w.1 (ap (coordinator_place c.args.self.now) w.0) refl (ap (λ (o : CoordinatorState). o.last) c.self.view_is) in
    (None, rw c.refused_step.ensures r, refl)

pub returns-then-others-eq0-clause-starts : goal.returns-then-others-eq0-clause-starts
returns-then-others-eq0-clause-starts c = λ op was.
    let w : WasStaged c.args.replica.now op None = rw c.in_default.is at was in
    let idle : phase_of c.self.inside.wait c.self.inside.votes c.self.inside.acks ≡ Idle = ap (λ (o : CoordinatorState). o.phase) c.self.view_is ∙ c.requires.can.0 in
    starts_alone c.args.self.now.others c.args.replica.now.shown c.args.replica.now.budget c.self.inside.last op
    (coordinator_place c.args.self.now None) _ c.args.replica.now c.committed_step.new.replica c.committed_step.result
    w.1 (sym (ap (λ (o : CoordinatorState). o.others) c.self.view_is) ∙ (sym c.others.ensures ∙ c.if-others-eq0.true)) refl w.0
    (ap (λ (o : CoordinatorState). o.last) c.self.view_is) (ap (λ (p : Phase). placed (c.self.inside.last + 1) p c.committed_step.new.replica.staged) idle) c.committed_step.ensures

pub returns-clause-starts : goal.returns-clause-starts
returns-clause-starts c = λ op was.
    let w : WasStaged c.args.replica.now op None = rw c.in_default.is at was in
    let on : c.args.replica.now.staged ≡ Some op = w.0 in
    let last : c.self.inside.last ≡ c.args.self.now.last = ap (λ (o : CoordinatorState). o.last) c.self.view_is in
    let many : length c.self.inside.votes ≡ c.args.self.now.others = c.self.invariant.0 ∙ ap (λ (o : CoordinatorState). o.others) c.self.view_is in
    let full : c.clear.new.self ≡ replicate c.args.self.now.others None = c.clear.ensures ∙ ap (λ (n : ℕ). replicate n None) many in
    (None, prepared w.1 (search rules) (rw (full, last, on) refl) refl (rw last refl), refl)
