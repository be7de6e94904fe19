use Rattle.std.proofs.Common.{◌≡◌, ◌∙◌, ◌-◌, ◌<◌, Some, suc, length, ap, arith, refl}
use Rattle.std.proofs.lemmas.List.{with_items_is}
use Rattle.world_events.specs.declared.event.Event.TheVariants.{Take}
use Rattle.world_core.specs.Keeping.{seen_world}
use Rattle.world_model.specs.Refusals.{WorldRefuses}
use Rattle.world_core.proofs.Begin.{on_err}
use Rattle.world_core.proofs.EventKeeping.{told_no_memory, told_err, up_oldest, up_nothing, up_no_memory, heard_no_memory, no_channel}
use Rattle.world_core.proofs.world.WorldOver.take_up.Goals as goal
use Rattle.world_core.proofs.world.WorldOver.take_up.Goals.{then-core-eq0-via-then-core-eq0, then-core-eq0-via-else-core-eq0+then-from-len}

pub returns-in_err-oldest_at-clause-fault : goal.returns-in_err-oldest_at-clause-fault
returns-in_err-oldest_at-clause-fault g c = λ short.
    let core_is : c.args.core ≡ suc (c.from-entry.result - 1) = omega (arith, c.from-entry.ensures, c.if-core-eq0.false) in
    let inside : c.from-entry.result - 1 < length c.self.inside.peers.items = omega (arith, c.if-core-eq0.false, c.if-from-len.false, c.from.ensures, c.from-entry.ensures, c.len.ensures, c.self.inside.peers.ok.0) in
    told_no_memory c.from_residual.result (WorldRefuses c.args.self.now (Take 0 c.args.core short)) c.from_residual.ensures.1
    (rw (← c.self.view_is) (up_no_memory g.C.Channel.messages c.self.inside.core0 c.self.inside.peers.items c.args.core (c.from-entry.result - 1) short core_is inside (rw c.deref.ensures.value at c.in_err-oldest_at.ensures.err)))

pub hear-requires-clause-oldest : goal.hear-requires-clause-oldest
hear-requires-clause-oldest g c =
    let core_is : c.args.core ≡ suc (c.from-entry.result - 1) = omega (arith, c.from-entry.ensures, c.if-core-eq0.false) in
    let inside : c.from-entry.result - 1 < length c.self.inside.peers.items = omega (arith, c.if-core-eq0.false, c.if-from-len.false, c.from.ensures, c.from-entry.ensures, c.len.ensures, c.self.inside.peers.ok.0) in
    let first = rw c.deref.ensures.value at c.in_ok-oldest_at.ensures.ok in
    rw c.deref_mut.ensures.value (up_oldest g.C.Channel.messages c.self.inside.core0 c.self.inside.peers.items c.args.core (c.from-entry.result - 1) c.in-Some.message core_is inside (first ∙ ap (λ o. Some o) c.in-Some.is))

pub invariant_of-self : goal.invariant_of-self
invariant_of-self g c =
    rw (with_items_is c.self.inside.peers c.hear.new.peers (omega (arith, c.hear.auto.peers, ap length c.deref_mut.ensures.value, c.self.inside.peers.ok.0))) c.hear.ensures.kept

pub invariant_of-self-in-Some : goal.invariant_of-self-in-Some
invariant_of-self-in-Some g c =
    rw (with_items_is c.self.inside.peers c.hear.new.peers (omega (arith, c.hear.auto.peers, ap length c.deref_mut.ensures.value, c.self.inside.peers.ok.0))) c.hear.ensures.kept

pub returns-in_err-hear-in-Some-clause-fault : goal.returns-in_err-hear-in-Some-clause-fault
returns-in_err-hear-in-Some-clause-fault g c = λ short.
    let core_is : c.args.core ≡ suc (c.from-entry.result - 1) = omega (arith, c.from-entry.ensures, c.if-core-eq0.false) in
    let inside : c.from-entry.result - 1 < length c.self.inside.peers.items = omega (arith, c.if-core-eq0.false, c.if-from-len.false, c.from.ensures, c.from-entry.ensures, c.len.ensures, c.self.inside.peers.ok.0) in
    let first = rw c.deref.ensures.value at c.in_ok-oldest_at.ensures.ok in
    told_no_memory c.from_residual-in_err-hear-in-Some.result (WorldRefuses c.args.self.now (Take 0 c.args.core short)) c.from_residual-in_err-hear-in-Some.ensures.1
    (rw (← c.self.view_is) (heard_no_memory (seen_world g.C.Channel.messages c.self.inside.core0 c.self.inside.peers.items) c.args.core c.in-Some.message short
    (up_oldest g.C.Channel.messages c.self.inside.core0 c.self.inside.peers.items c.args.core (c.from-entry.result - 1) c.in-Some.message core_is inside (first ∙ ap (λ o. Some o) c.in-Some.is))))

pub returns-in-None-clause-fault : goal.returns-in-None-clause-fault
returns-in-None-clause-fault g c = λ short.
    let core_is : c.args.core ≡ suc (c.from-entry.result - 1) = omega (arith, c.from-entry.ensures, c.if-core-eq0.false) in
    let inside : c.from-entry.result - 1 < length c.self.inside.peers.items = omega (arith, c.if-core-eq0.false, c.if-from-len.false, c.from.ensures, c.from-entry.ensures, c.len.ensures, c.self.inside.peers.ok.0) in
    let first = rw c.deref.ensures.value at c.in_ok-oldest_at.ensures.ok in
    rw (← c.self.view_is) (up_nothing g.C.Channel.messages c.self.inside.core0 c.self.inside.peers.items c.args.core (c.from-entry.result - 1) core_is inside (first ∙ ap (λ o. Some o) c.in-None.is))

pub hear-requires-clause-kept : goal.hear-requires-clause-kept
hear-requires-clause-kept g c = rw c.deref_mut.ensures.value c.self.invariant

pub returns-in_err-hear-in-Some-clause-same : goal.returns-in_err-hear-in-Some-clause-same
returns-in_err-hear-in-Some-clause-same g c =
    on_err c.from_residual-in_err-hear-in-Some.result _
    (rw (← c.self.view_is, with_items_is c.self.inside.peers c.hear.new.peers (omega (arith, c.hear.auto.peers, ap length c.deref_mut.ensures.value, c.self.inside.peers.ok.0))) (rw c.deref_mut.ensures.value at c.in_err-hear-in-Some.ensures.same))

pub returns-in_err-oldest_at-clause-happens : goal.returns-in_err-oldest_at-clause-happens
returns-in_err-oldest_at-clause-happens g c = λ short. told_err c.from_residual.result _ _ c.from_residual.ensures.1

pub returns-in_err-hear-in-Some-clause-happens : goal.returns-in_err-hear-in-Some-clause-happens
returns-in_err-hear-in-Some-clause-happens g c = λ short. told_err c.from_residual-in_err-hear-in-Some.result _ _ c.from_residual-in_err-hear-in-Some.ensures.1

pub returns-then-core-eq0-clause-fault : goal.returns-then-core-eq0-clause-fault
returns-then-core-eq0-clause-fault g c = λ short. elim c.then-core-eq0.branch [
  | then-core-eq0-via-then-core-eq0 w ↦ rw w.if-core-eq0.true refl
  | then-core-eq0-via-else-core-eq0+then-from-len w ↦ rw (← c.self.view_is) (no_channel g.C.Channel.messages c.self.inside.core0 c.self.inside.peers.items c.args.core (omega (arith, w.if-from-len.true, w.from.ensures, w.len.ensures, c.self.inside.peers.ok.0)))
]
