use Rattle.std.proofs.Common.{◌≡◌, ◌≢◌, length, ap, arith, rules}
use Rattle.std.proofs.lemmas.List.{with_items_is}
use Rattle.two_phase.specs.Coordinators.{Idle}
use Rattle.world_events.specs.declared.event.Event.TheVariants.{Start}
use Rattle.world_core.specs.Keeping.{seen_world}
use Rattle.world_model.specs.Refusals.{WorldRefuses}
use Rattle.world_core.proofs.Begin.{on_err}
use Rattle.world_core.proofs.EventKeeping.{told_no_memory, told_err, start_no_memory}
use Rattle.world_core.proofs.world.WorldOver.start.Goals as goal

pub begin-requires-clause-kept : goal.begin-requires-clause-kept
begin-requires-clause-kept g c = rw c.deref_mut.ensures.value c.self.invariant

pub invariant_of-self : goal.invariant_of-self
invariant_of-self g c =
    rw (with_items_is c.self.inside.peers c.begin.new.peers (omega (arith, c.begin.auto.peers, ap length c.deref_mut.ensures.value, c.self.inside.peers.ok.0))) c.begin.ensures.kept

pub invariant_of-self-2 : goal.invariant_of-self-2
invariant_of-self-2 g c =
    rw (with_items_is c.self.inside.peers c.begin.new.peers (omega (arith, c.begin.auto.peers, ap length c.deref_mut.ensures.value, c.self.inside.peers.ok.0))) c.begin.ensures.kept

pub returns-in_err-begin-clause-fault : goal.returns-in_err-begin-clause-fault
returns-in_err-begin-clause-fault g c =
    let idle : c.self.inside.core0.core.coordinator.phase ≡ Idle = search (rules, c.idle.ensures, c.if-not-idle.ensures, c.if-not-idle.false) in
    let unspent : c.self.inside.core0.core.coordinator.last ≢ 18446744073709551615 = (λ e. omega (arith, e, c.last.ensures, c.if-last.false)) in
    told_no_memory c.from_residual.result (WorldRefuses c.args.self.now (Start c.args.op.now)) c.from_residual.ensures.1
    (rw (← c.self.view_is) (start_no_memory (seen_world g.C.Channel.messages c.self.inside.core0 c.self.inside.peers.items) c.args.op.now idle unspent))

pub returns-in_err-begin-clause-same : goal.returns-in_err-begin-clause-same
returns-in_err-begin-clause-same g c =
    on_err c.from_residual.result _
    (rw (← c.self.view_is, with_items_is c.self.inside.peers c.begin.new.peers (omega (arith, c.begin.auto.peers, ap length c.deref_mut.ensures.value, c.self.inside.peers.ok.0))) (rw c.deref_mut.ensures.value at c.in_err-begin.ensures.same))

pub returns-clause-happens : goal.returns-clause-happens
returns-clause-happens g c =
    rw (← c.self.view_is, with_items_is c.self.inside.peers c.begin.new.peers (omega (arith, c.begin.auto.peers, ap length c.deref_mut.ensures.value, c.self.inside.peers.ok.0))) (rw c.deref_mut.ensures.value at c.in_ok-begin.ensures.happens)

pub returns-in_err-begin-clause-happens : goal.returns-in_err-begin-clause-happens
returns-in_err-begin-clause-happens g c = told_err c.from_residual.result _ _ c.from_residual.ensures.1
