use Rattle.std.proofs.Common.{arith}
use Rattle.filter_group.proofs.places.member_among.Goals as goal

pub returns-clause-none : goal.returns-clause-none
returns-clause-none c = λ i from below at. let last = c.loop-member-test.false in c.loop-member.invariant i from (omega arith) at
