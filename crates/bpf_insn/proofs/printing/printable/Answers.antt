use Rattle.std.proofs.Common.{below_more, refl, arith}
use Rattle.bpf_insn.proofs.printing.printable.Goals as goal

pub loop-place-preserved : goal.loop-place-preserved
loop-place-preserved c = below_more _ _ c.loop-place.invariant (c.prints_at.ensures.0 c.if-not-prints_at.false)

pub returns-then-not-prints_at : goal.returns-then-not-prints_at
returns-then-not-prints_at c = (
  λ test. absurd (cc),
  λ printable.
      let is = c.prints_at.ensures.1 (printable.each c.loop-place.place c.loop-place-test.true) in
      let is_not = c.if-not-prints_at.true in
      cc,
)

pub returns : goal.returns
returns c = (λ _. record { short = omega arith; each = λ pc within. c.loop-place.invariant pc (omega arith) }, λ _. refl)
