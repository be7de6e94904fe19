-- How many requests have no decision, and how many have one.
use Rattle.std.proofs.Common.{◌≡◌, ◌+◌, ◌-◌, ◌^◌, ◌++◌, ℕ, length, min, arith, length-append}
use Rattle.core_loop.specs.Answering.{AreDecided, under_way}
use Rattle.core_loop.specs.Cores.{begun}
use Rattle.core_machine.specs.Machines.{RingCore}
use Rattle.mkdemux_cores.specs.Asking.{AreUnanswered}
use Rattle.mkdemux_cores.specs.Turns.{IsNumber}

pub unanswered : (c : RingCore) (answer pending under : ℕ) → AreDecided c.part c.history → pending ≡ length c.pending → under ≡ under_way c.part
    → answer ≡ min (pending + under) (2 ^ 64 - 1) → AreUnanswered answer c
unanswered c answer pending under decided all one is =
    (pending + under, omega (arith, length-append (begun c.history) c.pending, decided, all, one), is)

-- the requests that were given are those that have a decision and those that have none
pub decided_count : (c : RingCore) (given pending under unanswered answer : ℕ) → AreDecided c.part c.history → given ≡ min (length (begun c.history ++ c.pending)) (2 ^ 64 - 1)
    → pending ≡ length c.pending → under ≡ under_way c.part → unanswered ≡ min (pending + under) (2 ^ 64 - 1) → answer ≡ given - unanswered → IsNumber answer c
decided_count c given pending under unanswered answer decided is all one none last few =
    omega (arith, length-append (begun c.history) c.pending, decided, is, all, one, none, last, few)
