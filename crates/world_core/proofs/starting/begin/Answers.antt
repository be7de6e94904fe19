use Rattle.std.proofs.Common.{◌≡◌, ◌∙◌, subst}
use Rattle.core_steps.specs.declared.core0.Core0.{Core0}
use Rattle.core_steps.specs.Core0Steps.{core0_place}
use Rattle.world_model.specs.Cases.{outgoing}
use Rattle.world_core.specs.LoggedCore0s.{Core0Starts}
use Rattle.world_core.specs.Sending.{SentOut}
use Rattle.world_core.proofs.Begin.{readied_same, readied_kept, none_staged, withdrawn, start_done}
use Rattle.world_core.proofs.starting.begin.Goals as goal

pub returns-in_default-clause-same : goal.returns-in_default-clause-same
returns-in_default-clause-same g c =
    let core0 = c.args.core0.now in
    let back : c.withdraw.new.self ≡ core0.core = c.withdraw.ensures ∙ withdrawn core0 c.stage-refusal.new.self c.stage-refusal.new.self.replica.staged (none_staged core0 c.requires.kept.core0_kept c.requires.can) c.stage-refusal.ensures.same in
    rw back (readied_same g.C.Channel.messages core0 c.args.peers.now c.ready_start.new.peers c.ready_start.ensures.peers)

pub returns-in_default-clause-kept : goal.returns-in_default-clause-kept
returns-in_default-clause-kept g c =
    let core0 = c.args.core0.now in
    let back : c.withdraw.new.self ≡ core0.core = c.withdraw.ensures ∙ withdrawn core0 c.stage-refusal.new.self c.stage-refusal.new.self.replica.staged (none_staged core0 c.requires.kept.core0_kept c.requires.can) c.stage-refusal.ensures.same in
    rw back (readied_kept g.C.Channel.messages core0 c.args.peers.now c.ready_start.new.peers c.ready_start.ensures.peers c.requires.kept)

pub returns-clause-happens : goal.returns-clause-happens
returns-clause-happens g c =
    let core0 = c.args.core0.now in
    let starts = subst (λ (core : Core0). Core0Starts (record core0 { core = core }) c.args.op.now c.begin-told.new.self c.begin-told.result) c.stage-refusal.ensures.same c.begin-told.ensures.starts in
    let sent : SentOut g.C.Channel.messages c.ready_start.new.peers (outgoing c.begin-told.result.step (core0_place c.begin-told.new.self.core)) c.send.new.peers =
    rw c.begin-told.ensures.sends (c.send.ensures _ c.in-Ok.ensures.ready.is_made) in
    (start_done g.C.Channel.messages core0 c.begin-told.new.self c.args.peers.now c.ready_start.new.peers c.send.new.peers c.args.op.now c.stage-refusal.new.self.replica.staged c.begin-told.result c.requires.kept c.requires.can c.ready_start.ensures.peers starts sent).happens

pub returns-clause-kept : goal.returns-clause-kept
returns-clause-kept g c =
    let core0 = c.args.core0.now in
    let starts = subst (λ (core : Core0). Core0Starts (record core0 { core = core }) c.args.op.now c.begin-told.new.self c.begin-told.result) c.stage-refusal.ensures.same c.begin-told.ensures.starts in
    let sent : SentOut g.C.Channel.messages c.ready_start.new.peers (outgoing c.begin-told.result.step (core0_place c.begin-told.new.self.core)) c.send.new.peers =
    rw c.begin-told.ensures.sends (c.send.ensures _ c.in-Ok.ensures.ready.is_made) in
    (start_done g.C.Channel.messages core0 c.begin-told.new.self c.args.peers.now c.ready_start.new.peers c.send.new.peers c.args.op.now c.stage-refusal.new.self.replica.staged c.begin-told.result c.requires.kept c.requires.can c.ready_start.ensures.peers starts sent).kept
