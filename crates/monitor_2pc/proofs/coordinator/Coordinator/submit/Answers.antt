use Rattle.std.proofs.Common.{refl, sym, ◌∙◌, arith}
use Rattle.monitor_2pc.specs.Waiting.{phase_of}
use Rattle.monitor_2pc.proofs.Starts.{keeps}
use Rattle.monitor_2pc.proofs.coordinator.Coordinator.submit.Goals as goal

pub returns-clause-kept : goal.returns-clause-kept
returns-clause-kept c =
    let i = c.self.inside in
    keeps i.last (phase_of i.wait i.votes i.acks) i.waiting i.asker i.decided c.args.self.now c.args.from c.from.result c.args.op c.keep.new.self
    c.self.view_is (omega arith) c.from.ensures (sym c.eq.ensures ∙ c.if-eq.false) (c.if-not-keep.ensures.free refl) (c.if-not-keep.ensures.kept refl)
