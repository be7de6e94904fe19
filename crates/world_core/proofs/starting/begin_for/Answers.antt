use Rattle.std.proofs.Common.{◌≡◌, ◌∙◌, sym, subst}
use Rattle.core_steps.specs.declared.core0.Core0.{Core0}
use Rattle.core_steps.specs.Core0Steps.{core0_place, HasWaiting}
use Rattle.world_model.specs.Cases.{outgoing}
use Rattle.world_core.specs.LoggedCore0s.{Core0StartsFor}
use Rattle.world_core.specs.Sending.{SentOut}
use Rattle.world_core.proofs.Begin.{readied_same, readied_kept, none_staged, withdrawn, none_waiting, unstaged, start_for_done}
use Rattle.world_core.proofs.starting.begin_for.Goals as goal

pub returns-in_default-ready_start_for-clause-same : goal.returns-in_default-ready_start_for-clause-same
returns-in_default-ready_start_for-clause-same g c =
    let core0 = c.args.core0.now in
    let back : c.withdraw.new.self ≡ core0.core = c.withdraw.ensures ∙ withdrawn core0 c.stage_for.new.self c.stage_for.new.self.replica.staged (none_staged core0 c.requires.kept.core0_kept c.requires.can) c.stage_for.ensures.same in
    rw back (readied_same g.C.Channel.messages core0 c.args.peers.now c.ready_start_for.new.peers c.ready_start_for.ensures.peers)

pub returns-in_default-ready_start_for-clause-kept : goal.returns-in_default-ready_start_for-clause-kept
returns-in_default-ready_start_for-clause-kept g c =
    let core0 = c.args.core0.now in
    let back : c.withdraw.new.self ≡ core0.core = c.withdraw.ensures ∙ withdrawn core0 c.stage_for.new.self c.stage_for.new.self.replica.staged (none_staged core0 c.requires.kept.core0_kept c.requires.can) c.stage_for.ensures.same in
    rw back (readied_kept g.C.Channel.messages core0 c.args.peers.now c.ready_start_for.new.peers c.ready_start_for.ensures.peers c.requires.kept)

pub send-requires : goal.send-requires
send-requires g c =
    let core0 = c.args.core0.now in
    let tried = c.in-Some.ensures.tried in
    let waits : HasWaiting c.stage_for.new.self c.args.core tried.0 tried.1 = subst (λ (core : Core0). HasWaiting core c.args.core tried.0 tried.1) (sym c.stage_for.ensures.same) (record { is_core = tried.2.is_core; is_waiting = tried.2.is_waiting }) in
    let ready = c.in-Ok.ensures.ready tried.0 tried.1 waits in
    ready.room

pub returns-clause-happens : goal.returns-clause-happens
returns-clause-happens g c =
    let core0 = c.args.core0.now in
    let tried = c.in-Some.ensures.tried in
    let waits : HasWaiting c.stage_for.new.self c.args.core tried.0 tried.1 = subst (λ (core : Core0). HasWaiting core c.args.core tried.0 tried.1) (sym c.stage_for.ensures.same) (record { is_core = tried.2.is_core; is_waiting = tried.2.is_waiting }) in
    let ready = c.in-Ok.ensures.ready tried.0 tried.1 waits in
    let starts = subst (λ (core : Core0). Core0StartsFor (record core0 { core = core }) tried.0 c.begin_for-told.new.self c.begin_for-told.result) c.stage_for.ensures.same (c.begin_for-told.ensures.starts tried.0 tried.2.is_core) in
    let sent : SentOut g.C.Channel.messages c.ready_start_for.new.peers (outgoing c.begin_for-told.result.step (core0_place c.begin_for-told.new.self.core)) c.send.new.peers =
    rw (c.begin_for-told.ensures.sends tried.0 tried.1 waits) (c.send.ensures _ ready.is_made) in
    let done = start_for_done g.C.Channel.messages core0 c.begin_for-told.new.self c.args.peers.now c.ready_start_for.new.peers c.send.new.peers c.args.core tried.0 c.stage_for.new.self.replica.staged c.begin_for-told.result
    c.requires.kept c.requires.can tried.2.is_core c.ready_start_for.ensures.peers starts sent in
    done.happens

pub returns-clause-kept : goal.returns-clause-kept
returns-clause-kept g c =
    let core0 = c.args.core0.now in
    let tried = c.in-Some.ensures.tried in
    let waits : HasWaiting c.stage_for.new.self c.args.core tried.0 tried.1 = subst (λ (core : Core0). HasWaiting core c.args.core tried.0 tried.1) (sym c.stage_for.ensures.same) (record { is_core = tried.2.is_core; is_waiting = tried.2.is_waiting }) in
    let ready = c.in-Ok.ensures.ready tried.0 tried.1 waits in
    let starts = subst (λ (core : Core0). Core0StartsFor (record core0 { core = core }) tried.0 c.begin_for-told.new.self c.begin_for-told.result) c.stage_for.ensures.same (c.begin_for-told.ensures.starts tried.0 tried.2.is_core) in
    let sent : SentOut g.C.Channel.messages c.ready_start_for.new.peers (outgoing c.begin_for-told.result.step (core0_place c.begin_for-told.new.self.core)) c.send.new.peers =
    rw (c.begin_for-told.ensures.sends tried.0 tried.1 waits) (c.send.ensures _ ready.is_made) in
    let done = start_for_done g.C.Channel.messages core0 c.begin_for-told.new.self c.args.peers.now c.ready_start_for.new.peers c.send.new.peers c.args.core tried.0 c.stage_for.new.self.replica.staged c.begin_for-told.result
    c.requires.kept c.requires.can tried.2.is_core c.ready_start_for.ensures.peers starts sent in
    done.kept

pub returns-in_default-clause-kept : goal.returns-in_default-clause-kept
returns-in_default-clause-kept g c =
    let core0 = c.args.core0.now in
    let e = c.in_default.ensures in
    let back : c.stage_for.new.self ≡ core0.core = unstaged core0 c.stage_for.new.self (none_staged core0 c.requires.kept.core0_kept c.requires.can) e.unstaged e.same in
    rw back c.requires.kept

pub returns-in_default-clause-fault : goal.returns-in_default-clause-fault
returns-in_default-clause-fault g c = none_waiting g.C.Channel.messages c.args.core0.now c.args.peers.now c.args.core c.in_default.ensures.none
