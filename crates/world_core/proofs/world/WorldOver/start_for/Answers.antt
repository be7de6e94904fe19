use Rattle.std.proofs.Common.{◌≡◌, ◌≢◌, ◌-◌, ◌<◌, suc, length, ap, arith, rules, refl}
use Rattle.std.proofs.lemmas.List.{with_items_is}
use Rattle.two_phase.specs.Coordinators.{Idle}
use Rattle.world_core.specs.Keeping.{seen_world}
use Rattle.world_core.proofs.EventKeeping.{told_as, start_for_refuses, has_channel, no_channel}
use Rattle.world_model.proofs.Standing.{ok_stands}
use Rattle.world_core.proofs.world.WorldOver.start_for.Goals as goal
use Rattle.world_core.proofs.world.WorldOver.start_for.Goals.{then-core-eq0-via-then-core-eq0, then-core-eq0-via-else-core-eq0+then-from-len}

pub begin_for-requires-clause-kept : goal.begin_for-requires-clause-kept
begin_for-requires-clause-kept g c = rw c.deref_mut.ensures.value c.self.invariant

pub invariant_of-self : goal.invariant_of-self
invariant_of-self g c =
    rw (with_items_is c.self.inside.peers c.begin_for.new.peers (omega (arith, c.begin_for.auto.peers, ap length c.deref_mut.ensures.value, c.self.inside.peers.ok.0))) c.begin_for.ensures.kept

pub returns-clause-fault : goal.returns-clause-fault
returns-clause-fault g c =
    let core_is : c.args.core ≡ suc (c.args.core - 1) = omega (arith, c.if-core-eq0.false) in
    let inside : c.args.core - 1 < length c.self.inside.peers.items = omega (arith, c.if-core-eq0.false, c.if-from-len.false, c.from.ensures, c.len.ensures, c.self.inside.peers.ok.0) in
    let there = has_channel g.C.Channel.messages c.self.inside.core0 c.self.inside.peers.items c.args.core (c.args.core - 1) core_is inside in
    let idle : c.self.inside.core0.core.coordinator.phase ≡ Idle = search (rules, c.idle.ensures, c.if-not-idle.ensures, c.if-not-idle.false) in
    let unspent : c.self.inside.core0.core.coordinator.last ≢ 18446744073709551615 = (λ e. omega (arith, e, c.last.ensures, c.if-last.false)) in
    rw (← c.self.view_is) (told_as c.begin_for.result _ _ (λ fault h. start_for_refuses (seen_world g.C.Channel.messages c.self.inside.core0 c.self.inside.peers.items) c.args.core fault there idle unspent h) (rw c.deref_mut.ensures.value at c.begin_for.ensures.fault))

pub returns-clause-joined : goal.returns-clause-joined
returns-clause-joined g c =
    let core_is : c.args.core ≡ suc (c.args.core - 1) = omega (arith, c.if-core-eq0.false) in
    let inside : c.args.core - 1 < length c.self.inside.peers.items = omega (arith, c.if-core-eq0.false, c.if-from-len.false, c.from.ensures, c.len.ensures, c.self.inside.peers.ok.0) in
    rw (← c.self.view_is) (ok_stands c.begin_for.result _ (has_channel g.C.Channel.messages c.self.inside.core0 c.self.inside.peers.items c.args.core (c.args.core - 1) core_is inside))

pub returns-clause-happens : goal.returns-clause-happens
returns-clause-happens g c =
    rw (← c.self.view_is, with_items_is c.self.inside.peers c.begin_for.new.peers (omega (arith, c.begin_for.auto.peers, ap length c.deref_mut.ensures.value, c.self.inside.peers.ok.0))) (rw c.deref_mut.ensures.value at c.begin_for.ensures.happens)

pub returns-clause-same : goal.returns-clause-same
returns-clause-same g c =
    rw (← c.self.view_is, with_items_is c.self.inside.peers c.begin_for.new.peers (omega (arith, c.begin_for.auto.peers, ap length c.deref_mut.ensures.value, c.self.inside.peers.ok.0))) (rw c.deref_mut.ensures.value at c.begin_for.ensures.same)

pub returns-then-not-idle-clause-fault : goal.returns-then-not-idle-clause-fault
returns-then-not-idle-clause-fault g c =
    let core_is : c.args.core ≡ suc (c.args.core - 1) = omega (arith, c.if-core-eq0.false) in
    let inside : c.args.core - 1 < length c.self.inside.peers.items = omega (arith, c.if-core-eq0.false, c.if-from-len.false, c.from.ensures, c.len.ensures, c.self.inside.peers.ok.0) in
    let there = has_channel g.C.Channel.messages c.self.inside.core0 c.self.inside.peers.items c.args.core (c.args.core - 1) core_is inside in
    let busy : c.self.inside.core0.core.coordinator.phase ≢ Idle = search (rules, c.idle.ensures, c.if-not-idle.ensures, c.if-not-idle.true) in
    rw (← c.self.view_is) (there, busy)

pub returns-then-last-clause-fault : goal.returns-then-last-clause-fault
returns-then-last-clause-fault g c =
    let core_is : c.args.core ≡ suc (c.args.core - 1) = omega (arith, c.if-core-eq0.false) in
    let inside : c.args.core - 1 < length c.self.inside.peers.items = omega (arith, c.if-core-eq0.false, c.if-from-len.false, c.from.ensures, c.len.ensures, c.self.inside.peers.ok.0) in
    let there = has_channel g.C.Channel.messages c.self.inside.core0 c.self.inside.peers.items c.args.core (c.args.core - 1) core_is inside in
    let idle : c.self.inside.core0.core.coordinator.phase ≡ Idle = search (rules, c.idle.ensures, c.if-not-idle.ensures, c.if-not-idle.false) in
    let spent : c.self.inside.core0.core.coordinator.last ≡ 18446744073709551615 = omega (arith, c.last.ensures, c.if-last.true) in
    rw (← c.self.view_is) (there, idle, spent)

pub begin_for-requires-clause-inside : goal.begin_for-requires-clause-inside
begin_for-requires-clause-inside g c = omega (arith, c.if-from-len.false, c.from.ensures, c.len.ensures, ap length c.deref_mut.ensures.value, c.self.inside.peers.ok.0)

pub returns-then-core-eq0-clause-fault : goal.returns-then-core-eq0-clause-fault
returns-then-core-eq0-clause-fault g c = elim c.then-core-eq0.branch [
  | then-core-eq0-via-then-core-eq0 w ↦ rw w.if-core-eq0.true refl
  | then-core-eq0-via-else-core-eq0+then-from-len w ↦ rw (← c.self.view_is) (no_channel g.C.Channel.messages c.self.inside.core0 c.self.inside.peers.items c.args.core (omega (arith, w.if-from-len.true, w.from.ensures, w.len.ensures, c.self.inside.peers.ok.0)))
]
