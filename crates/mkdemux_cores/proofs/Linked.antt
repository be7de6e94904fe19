-- Cores that a core has a link to.
use Rattle.std.proofs.Common.{◌≡◌, ◌<◌, ◌≤◌, ◌⊎◌, inl, inr, ℕ, None}
use Rattle.std.specs.Int.{bit_at}
use Rattle.std.proofs.lemmas.Bool.{cases_lt}
use Rattle.core_links.specs.RingSlots.{link_to}
use Rattle.core_machine.specs.Machines.{RingCore}
use Rattle.mkdemux_cores.specs.Turns.{AreLinked}

pub linked : (c : RingCore) (closed : ℕ) → ((p : ℕ) → c.cores ≤ p → bit_at closed p ≡ 0) → ((p : ℕ) → link_to c.links p ≡ None → bit_at closed p ≡ 0) → AreLinked closed c
linked c closed below joined p set = (by_side (cases_lt p c.cores), λ none. set (joined p none))
  where
    by_side : ((p < c.cores) ⊎ (c.cores ≤ p)) → p < c.cores
    by_side (inl lt) = lt
    by_side (inr le) = absurd (set (below p le))
