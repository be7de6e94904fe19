use Rattle.std.proofs.Common.{◌≡◌, length, arith, subst}
use Rattle.filter_verify.specs.Flows.{IsSettled}
use Rattle.filter_verify.proofs.Settled.{IsKept-settled}
use Rattle.filter_verify.proofs.dataflow.first_unwritten.Goals as goal

pub returns-clause-none : goal.returns-clause-none
returns-clause-none c =
    let whole : c.pass.pc ≡ length c.args.code.now = omega arith in
    IsKept-settled c.args.code.now c.pass.written c.requires.shaped (subst (λ p. IsSettled c.args.code.now p c.pass.written) whole c.pass.invariant)
