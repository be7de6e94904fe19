-- Whose request is under way at core 0.
-- No public clause cites these.
use Rattle.std.specs.Prelude.{◌≡◌, ℕ, Bool, true, false, Option, Some, None}
use Rattle.two_phase.specs.Coordinators.{Phase, Idle}
use Rattle.core_loop.specs.declared.part.Part.{Part}
use Rattle.core_loop.specs.declared.part.Part.TheVariants as part

-- no other core asked for it
abbrev pub by_itself : Option ℕ → Bool
by_itself None = true
by_itself (Some core) = false

abbrev pub asks_itself : Part → Bool
asks_itself (part.Core0 core) = by_itself core.coordinator.requests.asker
asks_itself (part.OtherCore core) = false

-- core 0 knows whose request it began last, while that is under way
abbrev pub KnowsOwn : Bool → Phase → Option ℕ → Type 0
KnowsOwn own Idle asker = asker ≡ None
KnowsOwn own phase asker = own ≡ by_itself asker
