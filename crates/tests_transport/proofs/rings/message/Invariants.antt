use Rattle.std.proofs.Common.{◌≡◌, vec_len}
use Rattle.tests_transport.proofs.rings.message.Given as goal

abbrev pub invariant-loop-at : goal.invariant-loop-at
invariant-loop-at g l = vec_len l.bytes ≡ l.at
