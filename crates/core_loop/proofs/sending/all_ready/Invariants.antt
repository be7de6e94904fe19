use Rattle.std.proofs.Common.{◌≡◌, ◌<◌, ℕ, suc, true}
use Rattle.core_loop.proofs.sending.all_ready.Given as goal

abbrev pub invariant-loop-entry : goal.invariant-loop-entry
invariant-loop-entry g l = (entry : ℕ) → entry < l.entry → (g.L.Links.view l.links (suc entry)).ready ≡ true
