use Rattle.std.proofs.Common.{◌≡◌, ◌∙◌, ◌-◌, ℕ, length, refl, ap, subst, arith}
use Rattle.world_model.specs.Cases.{outgoing, TakesUpAt}
use Rattle.world_model.proofs.Lists.{length-slice_set}
use Rattle.core_steps.specs.Core0Steps.{core0_place, sent}
use Rattle.world_core.specs.Keeping.{seen_world}
use Rattle.world_core.specs.Sending.{SentOut}
use Rattle.world_core.proofs.Begin.{readied_same, readied_kept, on_err}
use Rattle.world_core.proofs.Core0Keeping.{oldest_up, expects_up}
use Rattle.world_core.proofs.Moving.{ready_given, made_given, up_done}
use Rattle.world_core.proofs.hearing.hear.Goals as goal
use Rattle.std.proofs.lemmas.Option.{slice_get_within}

pub returns-in_err-ready-clause-same : goal.returns-in_err-ready-clause-same
returns-in_err-ready-clause-same g c = on_err c.from_residual.result _ (readied_same g.C.Channel.messages c.args.core0.now c.args.peers.now c.make_ready.new.peers c.make_ready.ensures.peers)

pub returns-in_err-ready-clause-kept : goal.returns-in_err-ready-clause-kept
returns-in_err-ready-clause-kept g c = readied_kept g.C.Channel.messages c.args.core0.now c.args.peers.now c.make_ready.new.peers c.make_ready.ensures.peers c.requires.kept

pub take-told-requires-clause-expects : goal.take-told-requires-clause-expects
take-told-requires-clause-expects g c =
    let o = oldest_up g.C.Channel.messages c.args.core0.now c.args.peers.now _ c.args.core c.args.message refl c.requires.oldest in
    (o.entry, o.is_core, expects_up g.C.Channel.messages c.args.core0.now c.args.peers.now c.args.core c.args.message c.requires.kept o)

pub drop_at-requires : goal.drop_at-requires
drop_at-requires g c =
    let o = oldest_up g.C.Channel.messages c.args.core0.now c.args.peers.now _ c.args.core c.args.message refl c.requires.oldest in
    omega (arith, o.is_core, c.from.ensures, slice_get_within c.args.peers.now o.entry o.peer o.there, c.make_ready.ensures.peers.0)

pub send-requires : goal.send-requires
send-requires g c = ready_given g.C.Channel.spare g.C.Channel.messages c.make_ready.new.peers c.drop_at.new.peers (c.from.result - 1) c.in_ok-ready.ready c.drop_at.ensures c.in_ok-ready.ensures.ready.room

pub returns-clause-happens : goal.returns-clause-happens
returns-clause-happens g c =
    let messages = g.C.Channel.messages in
    let core0 = c.args.core0.now in
    let readied = c.make_ready.new.peers in
    let kept = readied_kept messages core0 c.args.peers.now readied c.make_ready.ensures.peers c.requires.kept in
    let same = readied_same messages core0 c.args.peers.now readied c.make_ready.ensures.peers in
    let o = oldest_up messages core0 readied (seen_world messages core0 c.args.peers.now) c.args.core c.args.message same c.requires.oldest in
    let entry : c.from.result - 1 ≡ o.entry = omega (arith, o.is_core, c.from.ensures) in
    let h = c.take-told.ensures in
    let taken : h.takes.entry ≡ o.entry = omega (arith, o.is_core, h.takes.is_core) in
    let here = subst (λ (n : ℕ). TakesUpAt core0.core.replica.shown (core0_place core0.core) core0.core.coordinator.requests n c.args.message (core0_place c.take-told.new.self.core) c.take-told.new.self.core.coordinator.requests h.takes.committed c.take-told.result.step c.take-told.result.answer) taken h.takes.here in
    let long : length c.drop_at.new.peers ≡ length readied = ap length c.drop_at.ensures.changed ∙ length-slice_set _ _ _ in
    let made = made_given g.C.Channel.made_for readied c.drop_at.new.peers (sent c.take_sends-outgoing.result) c.in_ok-ready.ready long c.in_ok-ready.ensures.ready.is_made in
    let put : SentOut messages c.drop_at.new.peers (outgoing c.take-told.result.step (core0_place c.take-told.new.self.core)) c.send.new.peers =
    rw (c.take_sends-outgoing.ensures.sends c.take-told.new.self.core c.take-told.result h.takes) (c.send.ensures (sent c.take_sends-outgoing.result) made) in
    let done = up_done messages core0 c.take-told.new.self readied c.drop_at.new.peers c.send.new.peers (seen_world messages core0 c.args.peers.now) c.args.core (c.from.result - 1) c.args.message h.takes.committed c.take-told.result.step c.take-told.result.answer
    kept same o entry (record { moves = h.takes.moves; log_next = h.log_next; kept = h.kept }) c.drop_at.ensures put here in
    done.happens

pub returns-clause-kept : goal.returns-clause-kept
returns-clause-kept g c =
    let messages = g.C.Channel.messages in
    let core0 = c.args.core0.now in
    let readied = c.make_ready.new.peers in
    let kept = readied_kept messages core0 c.args.peers.now readied c.make_ready.ensures.peers c.requires.kept in
    let same = readied_same messages core0 c.args.peers.now readied c.make_ready.ensures.peers in
    let o = oldest_up messages core0 readied (seen_world messages core0 c.args.peers.now) c.args.core c.args.message same c.requires.oldest in
    let entry : c.from.result - 1 ≡ o.entry = omega (arith, o.is_core, c.from.ensures) in
    let h = c.take-told.ensures in
    let taken : h.takes.entry ≡ o.entry = omega (arith, o.is_core, h.takes.is_core) in
    let here = subst (λ (n : ℕ). TakesUpAt core0.core.replica.shown (core0_place core0.core) core0.core.coordinator.requests n c.args.message (core0_place c.take-told.new.self.core) c.take-told.new.self.core.coordinator.requests h.takes.committed c.take-told.result.step c.take-told.result.answer) taken h.takes.here in
    let long : length c.drop_at.new.peers ≡ length readied = ap length c.drop_at.ensures.changed ∙ length-slice_set _ _ _ in
    let made = made_given g.C.Channel.made_for readied c.drop_at.new.peers (sent c.take_sends-outgoing.result) c.in_ok-ready.ready long c.in_ok-ready.ensures.ready.is_made in
    let put : SentOut messages c.drop_at.new.peers (outgoing c.take-told.result.step (core0_place c.take-told.new.self.core)) c.send.new.peers =
    rw (c.take_sends-outgoing.ensures.sends c.take-told.new.self.core c.take-told.result h.takes) (c.send.ensures (sent c.take_sends-outgoing.result) made) in
    let done = up_done messages core0 c.take-told.new.self readied c.drop_at.new.peers c.send.new.peers (seen_world messages core0 c.args.peers.now) c.args.core (c.from.result - 1) c.args.message h.takes.committed c.take-told.result.step c.take-told.result.answer
    kept same o entry (record { moves = h.takes.moves; log_next = h.log_next; kept = h.kept }) c.drop_at.ensures put here in
    done.kept
