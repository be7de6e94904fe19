-- A script for cores that run by themselves: requests, each at the core where it enters, and packets, each at the core that
-- receives it. It doesn't say in which order the cores do things.
use Rattle.std.specs.Prelude.{◌≡◌, ◌<◌, ◌+◌, ℕ, true, false, List, [], ◌∷◌, Some, length, slice_get}
use Rattle.std.specs.List.{All, flat_map}
use Rattle.pcap_reader.specs.declared.capture.CapturedPacket.{CapturedPacket}
use Rattle.world_events.specs.declared.event.Event.{Event}
use Rattle.world_events.specs.declared.event.Event.TheVariants.{Rx}
use Rattle.mk_script.specs.declared.script.Item.{Item}
use Rattle.mk_script.specs.declared.script.Item.TheVariants.{Ask, Apply}
use Rattle.mk_script.specs.declared.script.Script.{Script}
use Rattle.mk_script.specs.Drafts.{Settings}

-- a request that enters, or a packet that is received, at one of so many cores
abbrev pub IsForThreads : ℕ → Item → Type 0
IsForThreads cores (Ask core op) = core < cores
IsForThreads cores (Apply (Rx core number packet floor)) = core < cores
IsForThreads cores item = ⊥

-- the receptions, in order
abbrev pub received_in : Item → List Event
received_in (Apply (Rx core number packet floor)) = Rx core number packet floor ∷ []
received_in item = []

abbrev pub received : List Item → List Event
received items = flat_map received_in items

-- packets are numbered from 1
abbrev pub AreNumbered : List Event → Type 0
AreNumbered events = (k core number floor : ℕ) (packet : CapturedPacket) → slice_get events k ≡ Some (Rx core number packet floor) → number ≡ k + 1

pub record IsScriptForThreads (script : Script) : Type 0 where
  pub items : All (IsForThreads (length script.budgets)) script.items
  pub numbered : AreNumbered (received script.items)

-- with these files a text is read for threads, or for a simulation
abbrev pub for_threads : List (List ℕ) → Settings
for_threads files = record { files = files; threads = true }

abbrev pub for_simulation : List (List ℕ) → Settings
for_simulation files = record { files = files; threads = false }
