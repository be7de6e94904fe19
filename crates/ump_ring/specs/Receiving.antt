-- What a receiver has made of the lines received, by its fields. No public clause cites these.
use Rattle.std.specs.Prelude.{◌≡◌, ◌≢◌, ◌-◌, ◌≤◌, ℕ, Bool, List, [], length, slice_index_or, None, true}
use Rattle.ump_ring.specs.declared.joiner.Joiner.{Joiner}
use Rattle.ump_ring.specs.Reading.{HasRead, line_fault, sound_lines}
use Rattle.ump_ring.specs.Joiners.{message_shown}

-- the joiner has read these lines, and the fault, if there is one, is that of the last
pub record IsReceiving (j : Joiner) (lines : List (List ℕ)) : Type 0 where
  pub read : HasRead j.number j.size j.bytes.items (sound_lines j.fault lines)
  pub faulty : j.fault ≢ None → (1 ≤ length lines) × (line_fault j.number j.size j.bytes.items (slice_index_or lines (length lines - 1) []) ≡ j.fault)

-- a message that is kept is whole
abbrev pub KeepsMessage : Bool → Joiner → Type 0
KeepsMessage kept j = kept ≡ true → message_shown j ≢ None
