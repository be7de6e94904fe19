use Rattle.std.proofs.Common.{◌≡◌, ℕ, [], ◌∷◌, None, refl}
use Rattle.core_links.specs.RingSlots.{link_to}
use Rattle.core_machine.specs.Machines.{RingCore, HasPlace, IsMachine}
use Rattle.tests_machines.proofs.joined.run_alone.Goals as goal
use Rattle.filter_table.specs.Limits.{default_limits}

-- a machine of one core
one_core : (budget : ℕ) (first : RingCore) → HasPlace 0 1 default_limits budget first → link_to first.links 0 ≡ None → IsMachine default_limits budget [] (first ∷ [])
one_core budget first place none = record { place = place; all = refl; no_itself = none; peers = λ i b c at. absurd (cc) }

pub conclude-requires : goal.conclude-requires
conclude-requires c =
    let none = c.in_ok-links.ensures.empty 0 in
    (default_limits, 100, [], rw c.in_ok-cores.ensures.items (c.take_turns_alone.ensures 100 [] (one_core 100 c.in_ok-first.first c.in_ok-first.ensures.place (rw c.in_ok-first.ensures.links none))))
