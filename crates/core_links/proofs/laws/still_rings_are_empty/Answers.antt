use Rattle.std.proofs.Common.{◌≡◌, ◌≤◌, ℕ, Bool, true, false, refl, arith}
use Rattle.core_links.specs.Flows.{Flow, AreExact, IsStill}
use Rattle.core_links.proofs.laws.still_rings_are_empty.Goals as goal

emptied : (capacity : ℕ) (s s' r r' : Flow) (ready : Bool) → 1 ≤ capacity → AreExact capacity s r → IsStill s s' → IsStill r r' → (ready ≡ false → s'.room ≡ 0) → r'.known ≡ 0 → (s'.out ≡ r'.come) × (ready ≡ true)
emptied capacity s s' r r' true some x a b full dry = (omega (arith, x.items, a.out, b.come, b.known, dry), refl)
emptied capacity s s' r r' false some x a b full dry = absurd (omega (arith, some, x.items, x.places, a.room, b.known, full refl, dry))

pub returns : goal.returns
returns c = emptied
