use Rattle.std.proofs.Common.{◌≡◌, ◌<◌, ◌≤◌, ℕ, false}
use Rattle.core_links.specs.Flows.{FlowsOn, SaysMoved}
use Rattle.core_loop.specs.Carrying.{Quiet}
use Rattle.core_loop.specs.Choosing.{ShowsNothing}
use Rattle.core_loop.proofs.looking.first_showing.Given as goal

abbrev pub invariant-loop-peer : goal.invariant-loop-peer
invariant-loop-peer g l = g.L.Links.same l.initial.links l.links × ((p : ℕ) → Quiet (g.L.Links.view l.initial.links p) (g.L.Links.view l.links p)) × ((p : ℕ) → p < l.peer → ShowsNothing (g.L.Links.view l.links p))
    × ((p : ℕ) → FlowsOn (g.L.Links.flow l.initial.links p) (g.L.Links.flow l.links p))
    × (((p : ℕ) → (g.L.Links.view l.initial.links p).ready ≡ false → (g.L.Links.flow l.initial.links p).room ≡ 0) → (p : ℕ) → (g.L.Links.view l.links p).ready ≡ false → (g.L.Links.flow l.links p).room ≡ 0)
    × ((p : ℕ) → p < l.peer → (g.L.Links.flow l.links p).known ≡ 0)
    × ((p : ℕ) → SaysMoved (g.L.Links.flow l.initial.links p) (g.L.Links.flow l.links p))
    × ((p : ℕ) → l.end ≤ p → (g.L.Links.view l.links p ≡ g.L.Links.view l.initial.links p) × (g.L.Links.flow l.links p ≡ g.L.Links.flow l.initial.links p))
