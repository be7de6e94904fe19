-- Options (draft-ietf-opsawg-pcapng, "Options"): code, length, and the value with padding to a multiple of four.
use Rattle.std.specs.Prelude.{ℕ, zero, suc, ◌+◌, ◌*◌, ◌/◌, ◌==◌, ◌||◌, nat_lt, if◌then◌else◌, Bool, List, length, take, drop, slice_index, Option, Some, None, ℤ, pos}
use Rattle.std.specs.Int.{cast_signed, w64}
use Rattle.pcap_reader.specs.Savefile.{number}

-- a length with its padding
abbrev pub padded : ℕ → ℕ
padded n = (n + 3) / 4 * 4

-- no option is in front: the bytes end, the code is 0, or the value doesn't fit
abbrev pub ends_options : Bool → List ℕ → Bool
ends_options big bytes = nat_lt (length bytes) 4 || number big 2 bytes == 0 || nat_lt (length bytes) (4 + number big 2 (drop 2 bytes))

-- the value of the first option with a code, among at most n options
abbrev pub option_in : ℕ → Bool → ℕ → List ℕ → Option (List ℕ)
option_in zero big code bytes = None
option_in (suc n) big code bytes =
    if ends_options big bytes then None
    else (if number big 2 bytes == code then Some (take (number big 2 (drop 2 bytes)) (drop 4 bytes))
    else option_in n big code (drop (4 + padded (number big 2 (drop 2 bytes))) bytes))

-- if_tsresol has one byte; without it time stamps have microseconds
abbrev pub resolution_from : Option (List ℕ) → ℕ
resolution_from None = 6
resolution_from (Some value) = if length value == 1 then slice_index value 0 else 6

-- the resolution of time stamps that options give an interface
unfoldable pub resolution_in : Bool → List ℕ → ℕ
resolution_in big options = resolution_from (option_in (length options) big 9 options)

-- if_tsoffset has a signed number of 8 bytes; without it nothing is added
abbrev pub offset_from : Bool → Option (List ℕ) → ℤ
offset_from big None = pos 0
offset_from big (Some value) = if length value == 8 then cast_signed w64 (number big 8 value) else pos 0

-- the seconds that options have added to time stamps
unfoldable pub offset_in : Bool → List ℕ → ℤ
offset_in big options = offset_from big (option_in (length options) big 14 options)
