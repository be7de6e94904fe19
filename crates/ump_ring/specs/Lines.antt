-- Messages as lines of a cache line's size (Baumann et al., The Multikernel, SOSP 2009, section 4.6).
use Rattle.std.specs.Prelude.{ℕ, zero, suc, ◌+◌, ◌*◌, ◌/◌, ◌%◌, ◌<◌, ◌≤◌, ◌==◌, ◌&&◌, nat_lt, nat_le, if◌then◌else◌, List, [], ◌∷◌, ◌++◌, length, take, drop, slice_index, flat_map}
use Rattle.std.specs.Int.{from_le_bytes, to_le_bytes, w64}

-- the eight bytes from a place on. There are zeros past the end
abbrev pub bytes_at : List ℕ → ℕ → List ℕ
bytes_at bytes at =
    slice_index bytes at ∷ slice_index bytes (at + 1) ∷ slice_index bytes (at + 2) ∷ slice_index bytes (at + 3)
    ∷ slice_index bytes (at + 4) ∷ slice_index bytes (at + 5) ∷ slice_index bytes (at + 6) ∷ slice_index bytes (at + 7) ∷ []

-- the eight bytes from a place on as a number, the first one lowest
abbrev pub word_at : List ℕ → ℕ → ℕ
word_at bytes at = from_le_bytes w64 (bytes_at bytes at)

-- the first word of a line: the length, which is 0 on later lines, and the line's number
abbrev pub head_word : ℕ → ℕ → ℕ
head_word length number = length * 0x1_0000_0000 + number

-- line number `place`, counted from 0, of a message of `size` bytes that begins with these, under the ring's number for it
abbrev pub line_at : ℕ → List ℕ → ℕ → ℕ → List ℕ
line_at size bytes number place =
    head_word (if place == 0 then size else 0) number
    ∷ word_at bytes (56 * place) ∷ word_at bytes (56 * place + 8) ∷ word_at bytes (56 * place + 16) ∷ word_at bytes (56 * place + 24)
    ∷ word_at bytes (56 * place + 32) ∷ word_at bytes (56 * place + 40) ∷ word_at bytes (56 * place + 48) ∷ []

-- the number of the line that follows this many lines of a ring
abbrev pub number_after : ℕ → ℕ
number_after count = count % 0x1_0000_0000

-- the first lines, as many as `count`, of a message of `size` bytes that begins with these, where the ring had `before` lines
abbrev pub lines_below : ℕ → List ℕ → ℕ → ℕ → List (List ℕ)
lines_below size bytes before zero = []
lines_below size bytes before (suc count) =
    lines_below size bytes before count ++ line_at size bytes (number_after (before + count)) count ∷ []

-- how many lines hold this many bytes
abbrev pub line_count : ℕ → ℕ
line_count size = (size + 55) / 56

-- the lines of a message, where the ring had `before` lines
abbrev pub lines_of : List ℕ → ℕ → List (List ℕ)
lines_of bytes before = lines_below (length bytes) bytes before (line_count (length bytes))

-- the lines of several messages one after another, where the ring had `before` lines
abbrev pub stream : ℕ → List (List ℕ) → List (List ℕ)
stream before [] = []
stream before (m ∷ ms) = lines_of m before ++ stream (before + line_count (length m)) ms

-- the bytes of the longest message, and its lines
abbrev pub message_most : ℕ
message_most = 32832

abbrev pub lines_most : ℕ
lines_most = 587

-- a byte string that lines can carry
pub record IsMessage (m : List ℕ) : Type 0 where
  pub least : 1 ≤ length m
  pub most : length m ≤ message_most
  pub bytes : (k : ℕ) → slice_index m k < 256

-- the length that a line states, and its number
abbrev pub length_of : List ℕ → ℕ
length_of line = slice_index line 0 / 0x1_0000_0000

abbrev pub number_of : List ℕ → ℕ
number_of line = slice_index line 0 % 0x1_0000_0000

-- the bytes that a line holds, and those that lines hold
abbrev pub payload : List ℕ → List ℕ
payload line = flat_map (to_le_bytes w64) (drop 1 line)

abbrev pub payloads : List (List ℕ) → List ℕ
payloads lines = flat_map payload lines

-- the first `size` of these bytes, if a line that states no length or too few bytes do not stand against it
abbrev pub begun : ℕ → List ℕ → List (List ℕ)
begun size bytes = if nat_lt 0 size && nat_le size (length bytes) then take size bytes ∷ [] else []

-- the messages that lines stand for, without an unfinished rest: each begins at a line that states its length
abbrev pub messages_in : List (List ℕ) → List (List ℕ)
messages_in [] = []
messages_in (line ∷ lines) = begun (length_of line) (payloads (line ∷ lines)) ++ messages_in lines
