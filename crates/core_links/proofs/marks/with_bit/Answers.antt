use Rattle.std.proofs.Common.{w64, arith}
use Rattle.std.proofs.lemmas.Nat.Bits.{bit_at_set_same, bit_at_set_other}
use Rattle.core_links.proofs.marks.with_bit.Goals as goal

pub returns-then-peer-lt-MARKED-clause-here : goal.returns-then-peer-lt-MARKED-clause-here
returns-then-peer-lt-MARKED-clause-here c = λ lt. bit_at_set_same w64 c.args.bits c.args.peer lt

pub returns-then-peer-lt-MARKED-clause-others : goal.returns-then-peer-lt-MARKED-clause-others
returns-then-peer-lt-MARKED-clause-others c = λ p ne. bit_at_set_other w64 c.args.bits c.args.peer (omega arith) p ne
