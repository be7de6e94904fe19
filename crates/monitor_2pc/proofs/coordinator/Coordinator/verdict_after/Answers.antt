use Rattle.std.proofs.Common.{◌≡◌, ◌-◌, ◌∙◌, Some, slice_set, ap, arith}
use Rattle.two_phase.specs.Coordinators.{CoordinatorState}
use Rattle.monitor_2pc.specs.Tallying.{SaysOn}
use Rattle.monitor_2pc.proofs.Verdicts.{says_told, votes_are}
use Rattle.monitor_2pc.proofs.coordinator.Coordinator.verdict_after.Goals as goal

pub returns : goal.returns
returns c = λ s staged entry txn place committed told is_core h.
    let i = c.self.inside in
    let votes : i.votes ≡ h.votes = votes_are i.wait i.votes h.votes i.acks (ap (λ (o : CoordinatorState). o.phase) c.self.view_is ∙ h.voting) in
    let here : c.from.result - 1 ≡ entry = omega (arith, is_core, c.from.ensures) in
    let says : SaysOn (slice_set h.votes entry (Some c.args.vote)) c.verdict_with.result = rw (← votes, ← here) (c.verdict_with.ensures (rw (votes, here) h.first_vote)) in
    says_told s txn h.op (slice_set h.votes entry (Some c.args.vote)) place committed told c.verdict_with.result h.tallies says
