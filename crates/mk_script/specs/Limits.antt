-- What a script is limited to, whatever its text says: the machine takes 1 to 64 cores, a request enters at one of them, a
-- message carries a program of 4,096 instructions at most, and a packet's captured length is a number of 32 bits.
use Rattle.std.specs.Prelude.{ℕ, ◌≤◌, ◌<◌, ◌^◌, length}
use Rattle.std.specs.List.{All}
use Rattle.filter_table.specs.Tables.{HasShortProgram}
use Rattle.pcap_reader.specs.declared.capture.CapturedPacket.{CapturedPacket}
use Rattle.world_events.specs.declared.event.Event.{Event}
use Rattle.world_events.specs.declared.event.Event.TheVariants.{Take, Rx}
use Rattle.mk_script.specs.declared.script.Item.{Item}
use Rattle.mk_script.specs.declared.script.Item.TheVariants.{Ask, Apply}
use Rattle.mk_script.specs.declared.script.Script.{Script}

abbrev pub IsShortPacket : CapturedPacket → Type 0
IsShortPacket packet = length packet.bytes < 2 ^ 32

-- a message is taken, or a packet is received that is short enough
abbrev pub IsTakeOrRx : Event → Type 0
IsTakeOrRx (Take to from short) = Unit {0}
IsTakeOrRx (Rx core number packet floor) = IsShortPacket packet
IsTakeOrRx event = ⊥

-- a request's program is short enough, and no other event than these is done as it is
abbrev pub IsLimited : Item → Type 0
IsLimited (Ask core op) = HasShortProgram op
IsLimited (Apply event) = IsTakeOrRx event
IsLimited item = Unit {0}

-- a request enters at one of so many cores
abbrev pub EntersBelow : ℕ → Item → Type 0
EntersBelow cores (Ask core op) = core < cores
EntersBelow cores item = Unit {0}

pub record HasLimits (script : Script) : Type 0 where
  pub some : 1 ≤ length script.budgets
  pub few : length script.budgets ≤ 64
  pub items : All IsLimited script.items
  pub homes : All (EntersBelow (length script.budgets)) script.items
