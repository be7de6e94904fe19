-- The addresses of filter expressions: IPv4 by its bytes, Ethernet by its six octets (pcap-filter(7)).
use Rattle.std.specs.Prelude.{ℕ, ◌+◌, ◌*◌, ◌-◌, ◌^◌, ◌==◌, ◌&&◌, nat_le, if◌then◌else◌, List, [], ◌∷◌, length, fold, Option, Some, None, option_map, option_and_then}
use Rattle.std.specs.List.{slice_split}
use Rattle.expr_words.specs.declared.word.V4.{V4}
use Rattle.expr_words.specs.Number.{octet}

-- the parts of a text, which a byte separates
abbrev pub parts : ℕ → List ℕ → List (List ℕ)
parts separator text = slice_split (λ b. b == separator) text

-- the octets that the parts write, where each of them writes one
abbrev pub all_octets : ℕ → List (List ℕ) → Option (List ℕ)
all_octets base [] = Some []
all_octets base (p ∷ ps) = option_and_then (λ n. option_map (λ ns. n ∷ ns) (all_octets base ps)) (octet base p)

-- the number that octets are, the first one highest
abbrev pub joined : List ℕ → ℕ
joined ns = fold (λ v n. v * 256 + n) 0 ns

-- two to four octets: the address begins with them and goes on with zeros
abbrev pub v4_of : List ℕ → Option V4
v4_of ns = if nat_le 2 (length ns) && nat_le (length ns) 4 then Some (record { address = joined ns * 256 ^ (4 - length ns); bits = 8 * length ns }) else None

abbrev pub mac_of : List ℕ → Option ℕ
mac_of ns = if length ns == 6 then Some (joined ns) else None

-- decimal octets, joined by `.`
unfoldable pub v4 : List ℕ → Option V4
v4 text = option_and_then v4_of (all_octets 10 (parts 46 text))

-- octets of one or two hexadecimal digits
unfoldable pub mac : ℕ → List ℕ → Option ℕ
mac separator text = option_and_then mac_of (all_octets 16 (parts separator text))
