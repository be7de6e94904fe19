use Rattle.std.proofs.Common.{◌≡◌, ◌+◌, ℕ, List, All, length}
use Rattle.monitor_messages.specs.declared.message.Message.{Message}
use Rattle.monitor_messages.specs.Coding.{Coded}
use Rattle.core_loop.specs.Sending.{FitLink}
use Rattle.core_loop.proofs.Handing.{HandsBelow, SameFrom}
use Rattle.core_loop.proofs.sending.send_all.Given as goal

abbrev pub invariant-loop-entry : goal.invariant-loop-entry
invariant-loop-entry g l =
    (length l.pieces.items + l.entry ≡ l.others) × All FitLink l.pieces.items × g.L.Links.same l.initial.links l.links
    × SameFrom (g.L.Links.view l.initial.links) (g.L.Links.view l.links) l.entry
    × ((stamp : ℕ) (m : Message) → All (λ (bytes : List ℕ). Coded bytes stamp m) l.initial.pieces.items → All (λ (bytes : List ℕ). Coded bytes stamp m) l.pieces.items × HandsBelow stamp m (g.L.Links.view l.initial.links) (g.L.Links.view l.links) l.entry)
    × ((p : ℕ) → g.L.Links.flow l.links p ≡ g.L.Links.flow l.initial.links p)
