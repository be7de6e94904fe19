use Rattle.std.proofs.Common.{◌≡◌, ℕ, zero, suc, [], ◌∷◌, None, Some, slice_get, refl, subst}
use Rattle.core_links.specs.Flows.{HoldLines}
use Rattle.core_links.specs.RingSlots.{link_to, AreJoinedLinks}
use Rattle.core_machine.specs.Machines.{RingCore, HasPlace, IsPeer, IsMachine}
use Rattle.tests_machines.proofs.joined.two_cores.Goals as goal
use Rattle.filter_table.specs.Limits.{default_limits}

-- a machine of two cores
machine : (budget budget' : ℕ) (first second : RingCore) → HasPlace 0 2 default_limits budget first → HasPlace 1 2 default_limits budget' second
    → AreJoinedLinks first.links second.links → HoldLines first.links second.links → link_to first.links 0 ≡ None → ((entry : ℕ) → link_to second.links (suc entry) ≡ None)
    → IsMachine default_limits budget (budget' ∷ []) (first ∷ second ∷ [])
machine budget budget' first second place place' joined holds no_itself no_other = record { place = place; all = refl; no_itself = no_itself; peers = at_each }
  where
    at_each : (i b : ℕ) (c : RingCore) → slice_get (budget' ∷ []) i ≡ Some b → slice_get (second ∷ []) i ≡ Some c → IsPeer 1 i default_limits b first c
    at_each zero b c at_b at_c =
        let is_b : budget' ≡ b = cc in
        let is_c : second ≡ c = cc in
        subst (λ (x : ℕ). IsPeer 1 0 default_limits x first c) is_b (subst (λ (x : RingCore). IsPeer 1 0 default_limits budget' first x) is_c (record { place = place'; joined = joined; holds = holds; no_other = no_other }))
    at_each (suc i) b c at_b at_c = absurd (cc)

pub returns-in-Ok : goal.returns-in-Ok
returns-in-Ok c =
    let joined = c.in_ok-links.ensures.joined in
    let alone = c.in_ok-links.ensures.alone in
    machine 100 100 c.in_ok-first.first c.in-Ok.second c.in_ok-first.ensures.place c.in-Ok.ensures.place
    (rw (c.in_ok-first.ensures.links, c.in-Ok.ensures.links) joined)
    (rw (c.in_ok-first.ensures.links, c.in-Ok.ensures.links) c.in_ok-links.ensures.holds)
    (rw c.in_ok-first.ensures.links alone.0)
    (λ entry. rw c.in-Ok.ensures.links (alone.1 entry))
