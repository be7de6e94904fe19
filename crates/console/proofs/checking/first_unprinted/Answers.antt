use Rattle.std.proofs.Common.{below_more, arith}
use Rattle.console.proofs.checking.first_unprinted.Goals as goal

pub loop-pc-preserved : goal.loop-pc-preserved
loop-pc-preserved c = below_more _ _ c.loop-pc.invariant (c.prints_at.ensures.0 c.if-not-prints_at.false)

pub returns-then-not-prints_at : goal.returns-then-not-prints_at
returns-then-not-prints_at c = record {
  within = c.loop-pc-test.true;
  here = λ prints. let is = c.prints_at.ensures.1 prints in let is_not = c.if-not-prints_at.true in cc;
  before = c.loop-pc.invariant;
}

pub returns : goal.returns
returns c = record { short = c.requires; each = λ pc within. c.loop-pc.invariant pc (omega arith) }
