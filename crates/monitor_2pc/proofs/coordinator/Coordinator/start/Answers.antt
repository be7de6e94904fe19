use Rattle.std.proofs.Common.{◌≡◌, None, rules}
use Rattle.monitor_2pc.specs.Starting.{WasStaged}
use Rattle.monitor_2pc.proofs.Starts.{was_staged}
use Rattle.monitor_2pc.proofs.coordinator.Coordinator.start.Goals as goal

pub begin-requires-clause-tried : goal.begin-requires-clause-tried
begin-requires-clause-tried c =
    let none : c.args.replica.now.staged ≡ None = search rules in
    let e = c.stage.ensures in
    (c.args.op.now, rw c.err-refusal.ensures.value (was_staged c.args.replica.now c.stage.new.self c.args.op.now c.stage.result e.ok e.now_staged e.err e.same e.shown e.budget none))

pub returns-clause-starts : goal.returns-clause-starts
returns-clause-starts c =
    let none : c.args.replica.now.staged ≡ None = search rules in
    let e = c.stage.ensures in
    let was : WasStaged c.stage.new.self c.args.op.now c.err-refusal.result = rw c.err-refusal.ensures.value (was_staged c.args.replica.now c.stage.new.self c.args.op.now c.stage.result e.ok e.now_staged e.err e.same e.shown e.budget none) in
    rw (← e.shown, ← e.budget, none) (c.begin.ensures.starts c.args.op.now was)
