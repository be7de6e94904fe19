-- What contracts see of a joiner of lines.
use Rattle.std.specs.Prelude.{◌≡◌, ◌+◌, ◌&&◌, ◌==◌, nat_lt, ℕ, List, [], ◌∷◌, length, Option, Some, None, is_none, if◌then◌else◌}
use Rattle.std.specs.Borrow.{Bor}
use Rattle.ump_ring.specs.declared.fault.LineFault.{LineFault}
use Rattle.ump_ring.specs.declared.joiner.Joiner.{Joiner}
use Rattle.ump_ring.specs.Lines.{number_after}
use Rattle.ump_ring.specs.Reading.{HasRead, size_with, bytes_with}

-- the first fault
abbrev pub fault_of : Joiner → Option LineFault
fault_of j = j.fault

-- the number that the next line is to have
abbrev pub number_next : Joiner → ℕ
number_next j = j.number

-- the length of the message that was begun last, and its bytes that have come
abbrev pub size_begun : Joiner → ℕ
size_begun j = j.size

abbrev pub bytes_come : Joiner → List ℕ
bytes_come j = j.bytes.items

-- the message, if the last line of one was read last
abbrev pub message_shown : Joiner → Option (List ℕ)
message_shown j =
    if is_none j.fault && nat_lt 0 j.size && (length j.bytes.items == j.size) then Some j.bytes.items else None

-- the message, if there is one, as a list
abbrev pub shown_list : Option (List ℕ) → List (List ℕ)
shown_list None = []
shown_list (Some m) = m ∷ []

-- a slice that is shown, as a list
abbrev pub shown_items : Option (Bor (List ℕ)) → Option (List ℕ)
shown_items None = None
shown_items (Some b) = Some b.now

-- these lines were read, all without a fault
pub record AfterLines (j : Joiner) (lines : List (List ℕ)) : Type 0 where
  pub sound : fault_of j ≡ None
  pub read : HasRead j.number j.size j.bytes.items lines

-- a line without a fault was read
pub record IsJoined (old new : Joiner) (line : List ℕ) : Type 0 where
  pub sound : fault_of new ≡ None
  pub number : new.number ≡ number_after (old.number + 1)
  pub size : new.size ≡ size_with old.size old.bytes.items line
  pub bytes : new.bytes.items ≡ bytes_with old.size old.bytes.items line
