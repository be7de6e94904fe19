-- What a receiver makes of lines: the framing of Lines.antt from the receiving side
-- (Baumann et al., The Multikernel, SOSP 2009, section 4.6).
use Rattle.std.specs.Prelude.{◌≡◌, ℕ, ◌-◌, ◌*◌, ◌<◌, ◌≤◌, ◌==◌, ◌&&◌, Bool, nat_lt, nat_le, if◌then◌else◌, List, [], ◌∷◌, ◌++◌, length, take, drop, slice_index, All, Option, Some, None}
use Rattle.std.specs.List.{list_all}
use Rattle.ump_ring.specs.declared.fault.LineFault.{LineFault}
use Rattle.ump_ring.specs.declared.fault.LineFault.TheVariants.{OutOfSequence, BadLength}
use Rattle.ump_ring.specs.Lines.{message_most, IsMessage, line_count, lines_below, length_of, number_of, messages_in, number_after, payload, stream}

-- some bytes of the message, of `size` bytes, have not come
abbrev pub is_open : ℕ → List ℕ → Bool
is_open size bytes = nat_lt (length bytes) size

-- the length of the message to which the line belongs, and how many of its bytes have not come before this line
abbrev pub size_with : ℕ → List ℕ → List ℕ → ℕ
size_with size bytes line = if is_open size bytes then size else length_of line

abbrev pub room_for : ℕ → List ℕ → List ℕ → ℕ
room_for size bytes line = if is_open size bytes then size - length bytes else length_of line

-- the bytes of that message that came with this line and before
abbrev pub bytes_with : ℕ → List ℕ → List ℕ → List ℕ
bytes_with size bytes line = (if is_open size bytes then bytes else []) ++ take (room_for size bytes line) (payload line)

-- a first line states a length, a later one none, and what lies past the message's end is 0
abbrev pub is_well_sized : ℕ → List ℕ → List ℕ → Bool
is_well_sized size bytes line =
    (if is_open size bytes then length_of line == 0 else nat_le 1 (length_of line) && nat_le (length_of line) message_most)
    && list_all (λ b. b == 0) (drop (room_for size bytes line) (payload line))

-- what is wrong with a line that follows
abbrev pub line_fault : ℕ → ℕ → List ℕ → List ℕ → Option LineFault
line_fault number size bytes line =
    if number_of line == number then (if is_well_sized size bytes line then None else Some BadLength) else Some OutOfSequence

-- the lines before the message that was begun last
abbrev pub closed : List ℕ → List (List ℕ) → List (List ℕ)
closed bytes lines = take (length lines - line_count (length bytes)) lines

-- these lines were read without a fault. They are those of whole messages, and then the first ones of a message of `size` bytes that begins with these, which may be whole
pub record HasRead (number size : ℕ) (bytes : List ℕ) (lines : List (List ℕ)) : Type 0 where
  pub numbered : number ≡ number_after (length lines)
  pub whole : closed bytes lines ≡ stream 0 (messages_in (closed bytes lines))
  pub messages : All IsMessage (messages_in (closed bytes lines))
  pub split : lines ≡ closed bytes lines ++ lines_below size bytes (length (closed bytes lines)) (line_count (length bytes))
  pub most : size ≤ message_most
  pub filled : length bytes ≤ size
  pub rows : length bytes < size → (1 ≤ length bytes) × (56 * line_count (length bytes) ≡ length bytes)
  pub bytes_fit : (k : ℕ) → slice_index bytes k < 256

-- no line of these has a fault
abbrev pub AreSound : List (List ℕ) → Type 0
AreSound lines = (number : ℕ) × (size : ℕ) × (bytes : List ℕ) × HasRead number size bytes lines

-- the lines before the one with a fault, if one has
abbrev pub sound_lines : Option LineFault → List (List ℕ) → List (List ℕ)
sound_lines None lines = lines
sound_lines (Some f) lines = take (length lines - 1) lines

-- the last of these lines has this fault. Those before it were read without one
pub record StopsAt (fault : LineFault) (lines : List (List ℕ)) : Type 0 where
  pub before : List (List ℕ)
  pub line : List ℕ
  pub number : ℕ
  pub size : ℕ
  pub bytes : List ℕ
  pub split : lines ≡ before ++ line ∷ []
  pub read : HasRead number size bytes before
  pub faulty : line_fault number size bytes line ≡ Some fault
