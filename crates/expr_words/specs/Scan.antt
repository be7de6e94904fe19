-- The token at the front of some bytes, where no blank stands there. A token is as long as it can be: an address with colons
-- is longer than the name that begins with it, and a sign of two bytes than one of one.
use Rattle.std.specs.Prelude.{◌≡◌, ℕ, ◌+◌, ◌-◌, ◌<◌, ◌≤◌, ◌==◌, ◌&&◌, not, nat_lt, if◌then◌else◌, List, map, length, take, drop, slice_index, Option, Some, None, Result, Ok, Err, ◌⊎◌}
use Rattle.std.specs.List.{prefix_len, suffix_len, take_while}
use Rattle.std.specs.Option.{option_map_or}
use Rattle.std.specs.Char.{is_ascii_alphanumeric}
use Rattle.std.specs.Net.Grammar.{IsIpv6Text}
use Rattle.std.specs.Net.Addr.{ipv6_bits}
use Rattle.std.specs.declared.net.ipv6_addr.Ipv6Addr.{Ipv6Addr}
use Rattle.expr_words.specs.declared.fault.WordFaultKind.{WordFaultKind}
use Rattle.expr_words.specs.declared.fault.WordFaultKind.TheVariants.{Character}
use Rattle.expr_words.specs.declared.word.Word.{Word}
use Rattle.expr_words.specs.declared.word.Word.TheVariants as word
use Rattle.expr_words.specs.declared.tables.TheConstants.{PAIRS, SINGLES}
use Rattle.expr_words.specs.Bytes.{continues_name, ends_name, is_in_address}
use Rattle.expr_words.specs.Address.{mac}
use Rattle.expr_words.specs.Names.{look_up, meaning, name}

-- how many bytes at the back can't end a name
abbrev pub name_tail : List ℕ → ℕ
name_tail bytes = suffix_len (λ b. not (ends_name b)) bytes

-- a name goes on as long as it can, and ends with a letter, a digit or `.`
abbrev pub name_width : List ℕ → ℕ
name_width bytes = 1 + prefix_len continues_name (drop 1 bytes) - name_tail (take_while continues_name (drop 1 bytes))

-- the text is six octets joined by `:`, or else an IPv6 address (RFC 4291, 2.2)
abbrev pub IsAddress : List ℕ → Word → Type 0
IsAddress text w =
    ((n : ℕ) × (w ≡ word.Mac n) × (mac 58 text ≡ Some n))
    ⊎ ((a : Ipv6Addr) × (w ≡ word.V6 (ipv6_bits a)) × (mac 58 text ≡ None) × IsIpv6Text text a)

abbrev pub NoAddress : List ℕ → Type 0
NoAddress text = (w : Word) → IsAddress text w → ⊥

unfoldable pub pair_named : List ℕ → Option Word
pair_named text = look_up (map (λ r. (r.0.now, r.1)) PAIRS) text

unfoldable pub single_named : List ℕ → Option Word
single_named text = look_up (map (λ r. (r.0.now, r.1)) SINGLES) text

-- a sign, the longer one of two: its width, and what it says
unfoldable pub sign : List ℕ → ℕ × Result Word WordFaultKind
sign bytes =
    option_map_or (λ w. (2, Ok w)) (if nat_lt 1 (length bytes) then pair_named (take 2 bytes) else None)
    (option_map_or (λ w. (1, Ok w)) (single_named (take 1 bytes)) (1, Err Character))

-- a name, a name after `\`, or a sign
unfoldable pub plain : List ℕ → ℕ × Result Word WordFaultKind
plain bytes =
    if is_ascii_alphanumeric (slice_index bytes 0) then (name_width bytes, meaning (take (name_width bytes) bytes))
    else if slice_index bytes 0 == 92 && nat_lt 1 (length bytes) && is_ascii_alphanumeric (slice_index bytes 1)
    then (1 + prefix_len continues_name (drop 1 bytes), Ok (word.Name (name (take_while continues_name (drop 1 bytes)))))
    else sign bytes

-- The token at the front has this width and says this. Its bytes up to the first that may not stand in an address with
-- colons are one, of 45 bytes at most; or they are none, and the token is another.
abbrev pub Begins : List ℕ → ℕ → Result Word WordFaultKind → Type 0
Begins bytes width outcome =
    ((w : Word) × (outcome ≡ Ok w) × (width ≡ prefix_len is_in_address bytes) × (0 < width) × (width ≤ 45) × IsAddress (take width bytes) w)
    ⊎ ((0 < prefix_len is_in_address bytes → prefix_len is_in_address bytes ≤ 45 → NoAddress (take_while is_in_address bytes)) × ((width, outcome) ≡ plain bytes))
