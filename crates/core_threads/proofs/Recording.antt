-- Cores get their lists, one after another.
use Rattle.std.proofs.Common.{◌≡◌, ℕ, List, [], ◌∷◌, ◌++◌, Some, slice_get, length, refl, ap, ◌∙◌, arith}
use Rattle.std.proofs.lemmas.Option.{slice_get_within}
use Rattle.filter_table.proofs.Positions.{get_at}
use Rattle.rx_queue.specs.declared.port.Port.{Port}
use Rattle.core_machine.specs.Machines.{RingCore}
use Rattle.core_machine.specs.Booted.{AreBooted}
use Rattle.core_machine.specs.Booting.{IsMachineOf}
use Rattle.core_threads.specs.Booted.{IsBootedMachine}
use Rattle.filter_table.specs.Limits.{TableLimits}
use Rattle.core_threads.specs.Recording.{HaveNoHistories}

get_next : (seen : List RingCore) (core : RingCore) (rest : List RingCore) → slice_get (seen ++ core ∷ rest) (length seen) ≡ Some core
get_next [] core rest = refl
get_next (c ∷ seen) core rest = get_next seen core rest

-- the next core has done nothing
pub next_none : (cores seen items rest : List RingCore) (core : RingCore) → HaveNoHistories cores → cores ≡ seen ++ items → items ≡ core ∷ rest → core.history ≡ []
next_none cores seen items rest core none whole next =
    let is : cores ≡ seen ++ (core ∷ rest) = whole ∙ ap (λ (l : List RingCore). seen ++ l) next in
    none (length seen) core (ap (λ (l : List RingCore). slice_get l (length seen)) is ∙ get_next seen core rest)

-- nor have cores that were booted
pub booted_none : (cores : List RingCore) (ports : List Port) → AreBooted cores ports → HaveNoHistories cores
booted_none cores ports booted i c at =
    let p = get_at ports i (omega (arith, slice_get_within cores i c at, booted.all)) in
    (booted.each i c p.0 at p.1).history

-- cores that came up with these budgets are a machine that has done nothing
pub booted_machine : (limits : TableLimits) (budgets : List ℕ) (cores : List RingCore) (ports : List Port) → IsMachineOf limits budgets cores → AreBooted cores ports → IsBootedMachine cores ports
booted_machine limits [] cores ports m booted = absurd m
booted_machine limits (budget ∷ others) cores ports m booted = record { limits = limits; budget = budget; budgets = others; machine = m; booted = booted }
