use Rattle.std.proofs.Common.{◌≡◌, None, Some, slice_get, arith, subst}
use Rattle.filter_table.specs.declared.operation.Op.{Op}
use Rattle.monitor_2pc.specs.Starting.{WasStaged}
use Rattle.core_steps.proofs.Codable.{prepare_codable, refusal_numbered}
use Rattle.core_steps.proofs.core0.Core0.start_for_sends.Goals as goal

pub returns-in-Some-clause-codable : goal.returns-in-Some-clause-codable
returns-in-Some-clause-codable c =
    let was : WasStaged c.args.self.now.replica c.requires.waits.1 (Some c.in-Some.fault) = rw c.in-Some.is at c.requires.waits.3 in
    (tt, rw c.veto_of.ensures (refusal_numbered c.args.self.now.replica c.requires.waits.1 c.in-Some.fault was))

pub returns-clause-codable : goal.returns-clause-codable
returns-clause-codable c =
    let w = c.requires.waits in
    let s = c.in-Some-waiting.ensures.some in
    let entry : s.0 ≡ w.0 = omega (arith, s.1, w.2.is_core) in
    let there : slice_get c.args.self.now.coordinator.requests.waiting w.0 ≡ Some (Some c.in-Some-waiting.op.now) = rw (← entry) s.2 in
    let same : w.1 ≡ c.in-Some-waiting.op.now = (let x = w.2.is_waiting in cc) in
    let was : WasStaged c.args.self.now.replica w.1 None = rw c.in_default.is at w.3 in
    prepare_codable c.args.self.now.replica c.in-Some-waiting.op.now c.in_ok-prepare.field-0 _ (subst (λ (op : Op). WasStaged c.args.self.now.replica op None) same was) c.in_ok-prepare.ensures
