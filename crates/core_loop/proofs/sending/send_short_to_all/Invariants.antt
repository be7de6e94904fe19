use Rattle.std.proofs.Common.{◌≡◌, ℕ}
use Rattle.monitor_messages.specs.declared.message.Message.{Message}
use Rattle.monitor_messages.specs.Coding.{Coded}
use Rattle.core_loop.proofs.Handing.{HandsBelow, SameFrom}
use Rattle.core_loop.proofs.sending.send_short_to_all.Given as goal

abbrev pub invariant-loop-entry : goal.invariant-loop-entry
invariant-loop-entry g l =
    g.L.Links.same l.initial.links l.links
    × SameFrom (g.L.Links.view l.initial.links) (g.L.Links.view l.links) l.entry
    × ((stamp : ℕ) (m : Message) → Coded l.bytes stamp m → HandsBelow stamp m (g.L.Links.view l.initial.links) (g.L.Links.view l.links) l.entry)
    × ((p : ℕ) → g.L.Links.flow l.links p ≡ g.L.Links.flow l.initial.links p)
