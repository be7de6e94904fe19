use Rattle.std.proofs.Common.{◌≡◌, ◌∙◌, ◌-◌, suc, length, refl, ap, sym, arith}
use Rattle.std.specs.Vec.{with_items}
use Rattle.std.proofs.lemmas.List.{with_items_is}
use Rattle.world_core.specs.Keeping.{ChangesOne, Takes}
use Rattle.world_model.proofs.Lists.{length-slice_set}
use Rattle.world_core.proofs.EventKeeping.{take_answered, take_ready, no_channel_down}
use Rattle.world_core.proofs.world.WorldOver.take_down.Goals as goal
use Rattle.world_core.proofs.world.WorldOver.take_down.Goals.{then-core-eq0-via-then-core-eq0, then-core-eq0-via-else-core-eq0+then-from-len}

pub invariant_of-self : goal.invariant_of-self
invariant_of-self g c =
    let is : (with_items c.self.inside.peers c.take_at.new.peers).items ≡ c.take_at.new.peers =
    with_items_is c.self.inside.peers c.take_at.new.peers
    (ap length c.take_at.ensures.changed ∙ (length-slice_set _ _ _ ∙ (ap length c.deref_mut.ensures.value ∙ sym c.self.inside.peers.ok.0))) in
    let change : ChangesOne c.self.inside.peers.items (c.from-entry.result - 1) (with_items c.self.inside.peers c.take_at.new.peers).items (Takes g.C.Channel.messages c.args.short c.take_at.result) =
    rw (is, ← c.deref_mut.ensures.value) c.take_at.ensures in
    let core_is : c.args.core ≡ suc (c.from-entry.result - 1) = omega (arith, c.from-entry.ensures, c.if-core-eq0.false) in
    let answered = take_answered g.C.Channel.messages c.self.inside.core0 c.self.inside.peers.items (with_items c.self.inside.peers c.take_at.new.peers).items c.args.self.now _ c.args.core (c.from-entry.result - 1) c.args.short c.take_at.result
    c.self.invariant c.self.view_is refl core_is change in
    answered.kept

pub returns-clause-happens : goal.returns-clause-happens
returns-clause-happens g c =
    let is : (with_items c.self.inside.peers c.take_at.new.peers).items ≡ c.take_at.new.peers =
    with_items_is c.self.inside.peers c.take_at.new.peers
    (ap length c.take_at.ensures.changed ∙ (length-slice_set _ _ _ ∙ (ap length c.deref_mut.ensures.value ∙ sym c.self.inside.peers.ok.0))) in
    let change : ChangesOne c.self.inside.peers.items (c.from-entry.result - 1) (with_items c.self.inside.peers c.take_at.new.peers).items (Takes g.C.Channel.messages c.args.short c.take_at.result) =
    rw (is, ← c.deref_mut.ensures.value) c.take_at.ensures in
    let core_is : c.args.core ≡ suc (c.from-entry.result - 1) = omega (arith, c.from-entry.ensures, c.if-core-eq0.false) in
    let answered = take_answered g.C.Channel.messages c.self.inside.core0 c.self.inside.peers.items (with_items c.self.inside.peers c.take_at.new.peers).items c.args.self.now _ c.args.core (c.from-entry.result - 1) c.args.short c.take_at.result
    c.self.invariant c.self.view_is refl core_is change in
    answered.happens

pub returns-clause-fault : goal.returns-clause-fault
returns-clause-fault g c =
    let is : (with_items c.self.inside.peers c.take_at.new.peers).items ≡ c.take_at.new.peers =
    with_items_is c.self.inside.peers c.take_at.new.peers
    (ap length c.take_at.ensures.changed ∙ (length-slice_set _ _ _ ∙ (ap length c.deref_mut.ensures.value ∙ sym c.self.inside.peers.ok.0))) in
    let change : ChangesOne c.self.inside.peers.items (c.from-entry.result - 1) (with_items c.self.inside.peers c.take_at.new.peers).items (Takes g.C.Channel.messages c.args.short c.take_at.result) =
    rw (is, ← c.deref_mut.ensures.value) c.take_at.ensures in
    let core_is : c.args.core ≡ suc (c.from-entry.result - 1) = omega (arith, c.from-entry.ensures, c.if-core-eq0.false) in
    let answered = take_answered g.C.Channel.messages c.self.inside.core0 c.self.inside.peers.items (with_items c.self.inside.peers c.take_at.new.peers).items c.args.self.now _ c.args.core (c.from-entry.result - 1) c.args.short c.take_at.result
    c.self.invariant c.self.view_is refl core_is change in
    answered.fault

pub returns-clause-same : goal.returns-clause-same
returns-clause-same g c =
    let is : (with_items c.self.inside.peers c.take_at.new.peers).items ≡ c.take_at.new.peers =
    with_items_is c.self.inside.peers c.take_at.new.peers
    (ap length c.take_at.ensures.changed ∙ (length-slice_set _ _ _ ∙ (ap length c.deref_mut.ensures.value ∙ sym c.self.inside.peers.ok.0))) in
    let change : ChangesOne c.self.inside.peers.items (c.from-entry.result - 1) (with_items c.self.inside.peers c.take_at.new.peers).items (Takes g.C.Channel.messages c.args.short c.take_at.result) =
    rw (is, ← c.deref_mut.ensures.value) c.take_at.ensures in
    let core_is : c.args.core ≡ suc (c.from-entry.result - 1) = omega (arith, c.from-entry.ensures, c.if-core-eq0.false) in
    let answered = take_answered g.C.Channel.messages c.self.inside.core0 c.self.inside.peers.items (with_items c.self.inside.peers c.take_at.new.peers).items c.args.self.now _ c.args.core (c.from-entry.result - 1) c.args.short c.take_at.result
    c.self.invariant c.self.view_is refl core_is change in
    answered.same

pub take_at-requires-clause-ready : goal.take_at-requires-clause-ready
take_at-requires-clause-ready g c = λ p at.
    take_ready g.C.Channel.messages c.self.inside.core0 c.self.inside.peers.items (c.from-entry.result - 1) c.self.invariant p (rw (← c.deref_mut.ensures.value) at)

pub returns-then-core-eq0-clause-fault : goal.returns-then-core-eq0-clause-fault
returns-then-core-eq0-clause-fault g c = elim c.then-core-eq0.branch [
  | then-core-eq0-via-then-core-eq0 w ↦ rw w.if-core-eq0.true refl
  | then-core-eq0-via-else-core-eq0+then-from-len w ↦ rw (← c.self.view_is) (no_channel_down g.C.Channel.messages c.self.inside.core0 c.self.inside.peers.items c.args.core (omega (arith, w.if-from-len.true, w.from.ensures, w.len.ensures, c.self.inside.peers.ok.0)))
]
