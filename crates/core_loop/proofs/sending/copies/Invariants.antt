use Rattle.std.proofs.Common.{◌≡◌, All, length}
use Rattle.core_loop.proofs.sending.copies.Given as goal

abbrev pub invariant-loop-i : goal.invariant-loop-i
invariant-loop-i l = (length l.pieces.items ≡ l._i) × All (λ piece. piece ≡ l.bytes) l.pieces.items
