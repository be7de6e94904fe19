-- Packets that aren't received.
use Rattle.std.specs.Prelude.{◌≡◌, ℕ, List}
use Rattle.core_loop.specs.Receiving.{IsRefused}
use Rattle.core_loop.specs.declared.live.NotReceived.{NotReceived}
use Rattle.core_loop.specs.declared.live.NotReceived.TheVariants as no
use Rattle.core_machine.specs.Machines.{RingCore}
use Rattle.mkdemux_cores.specs.declared.answers.TheConstants.{NO_MEMORY, NO_ROOM, SPENT, STOPPED}

abbrev pub why_number : NotReceived → ℕ
why_number (no.Stopped cause) = STOPPED
why_number no.Spent = SPENT
why_number (no.NoRoom count) = NO_ROOM
why_number no.NoMemory = NO_MEMORY

abbrev pub needed : NotReceived → ℕ
needed (no.NoRoom count) = count
needed why = 0

-- the core doesn't receive the packet in a room of so many places, for the reason that this number tells, with so many places needed
pub record IsNotReceived (core : RingCore) (bytes : List ℕ) (original room answer count : ℕ) : Type 0 where
  pub why : NotReceived
  pub refused : IsRefused core bytes original room why
  pub answer_is : answer ≡ why_number why
  pub count_is : count ≡ needed why
