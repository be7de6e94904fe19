use Rattle.std.proofs.Common.{◌≡◌, ap, ◌∙◌, refl, arith}
use Rattle.core_machine.specs.Machines.{RingCore}
use Rattle.mkdemux_cores.proofs.asking.program_for.Goals as goal

pub returns-then-code-gt-MOST_INSTRUCTIONS-clause-too_long : goal.returns-then-code-gt-MOST_INSTRUCTIONS-clause-too_long
returns-then-code-gt-MOST_INSTRUCTIONS-clause-too_long c =
    let core : RingCore = c.in-Some.open.value in
    let number : c.number-number.result ≡ core.number = c.number-number.ensures ∙ ap (λ (x : RingCore). x.number) c.deref.ensures in
    ((λ _. (core, c.in-Some.ensures.core, omega (arith, number, c.if-number-gt0.true), omega (arith, c.if-code-gt-MOST_INSTRUCTIONS.true))), (λ _. refl))
