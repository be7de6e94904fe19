-- The receipt of a packet that lies in the caller's memory.
use Rattle.std.specs.Prelude.{◌≡◌, ◌<◌, ◌≤◌, ◌+◌, ◌++◌, ℕ, List, [], ◌∷◌, length, None, Some}
use Rattle.filter_table.specs.declared.delivery.Kept.{Kept}
use Rattle.filter_table.specs.Tables.{TableState, Accepting}
use Rattle.world_events.specs.declared.event.Event.TheVariants.{Rx}
use Rattle.world_events.specs.declared.event.Answer.TheVariants.{Delivered}
use Rattle.world_histories.specs.declared.history.Stamped.{Stamped}
use Rattle.core_loop.specs.declared.live.NotReceived.{NotReceived}
use Rattle.core_loop.specs.declared.live.NotReceived.TheVariants as no
use Rattle.core_loop.specs.Keeping.{replica_of}
use Rattle.core_loop.specs.Cores.{CoreState}

-- the event by which a core receives these bytes of a packet that had so many, at this version: packet 0, with no floor
abbrev pub receipt : ℕ → ℕ → ℕ → List ℕ → ℕ → List Kept → Stamped
receipt core stamp version bytes original kept =
    record { stamp = stamp; done = record { event = Rx core 0 (record { bytes = bytes; original = original }) 0; answer = Delivered version kept } }

abbrev pub version_now : {L : Type 0} → CoreState L → ℕ
version_now c = (replica_of c.part).shown.version

-- why it can't be received by this table in a room of so many places: it has more receivers, or memory was refused
abbrev pub LacksRoom : TableState → List ℕ → ℕ → ℕ → NotReceived → Type 0
LacksRoom s bytes original room (no.NoRoom count) = (kept : List Kept) × Accepting s (record { bytes = bytes; original = original }) kept × (count ≡ length kept) × (room < count)
LacksRoom s bytes original room no.NoMemory = Unit {0}
LacksRoom s bytes original room why = ⊥

-- why these don't fit in a room of so many places: they are so many, and more
abbrev pub AreTooMany : List Kept → ℕ → NotReceived → Type 0
AreTooMany kept room (no.NoRoom count) = (count ≡ length kept) × (room < count)
AreTooMany kept room why = ⊥

-- why a core doesn't receive it: it has stopped, or can't count on, or that
abbrev pub IsRefused : {L : Type 0} → CoreState L → List ℕ → ℕ → ℕ → NotReceived → Type 0
IsRefused c bytes original room (no.Stopped cause) = c.stopped ≡ Some cause
IsRefused c bytes original room no.Spent = (c.stopped ≡ None) × (18446744073709551615 ≤ c.clock)
IsRefused c bytes original room why = (c.stopped ≡ None) × (c.clock < 18446744073709551615) × LacksRoom (replica_of c.part).shown bytes original room why

-- The core received a packet at its version: these endpoints, with so many bytes each, are all that the table of that version names, and the
-- receipt is the last event of the history. Nothing else of the core changed.
pub record HasReceived {L : Type 0} (old new : CoreState L) (bytes : List ℕ) (original : ℕ) (kept : List Kept) : Type 0 where
  pub running : old.stopped ≡ None
  pub accepting : Accepting (replica_of old.part).shown (record { bytes = bytes; original = original }) kept
  pub new_is : new ≡ record old { clock = old.clock + 1; history = old.history ++ receipt old.number (old.clock + 1) (version_now old) bytes original kept ∷ [] }
