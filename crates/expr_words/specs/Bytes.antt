-- The bytes of tokens (pcap-filter(7), and the scanner of libpcap 1.10).
use Rattle.std.specs.Prelude.{ℕ, Bool, ◌||◌, ◌==◌}
use Rattle.std.specs.Char.{is_ascii_digit, is_ascii_hexdigit, is_ascii_alphanumeric}

-- a space, a tab, or the end of a line
abbrev pub is_blank : ℕ → Bool
is_blank b = ((b == 32 || b == 9) || b == 13) || b == 10

-- a name goes on with letters, digits, `-`, `_` and `.`
abbrev pub continues_name : ℕ → Bool
continues_name b = ((is_ascii_alphanumeric b || b == 45) || b == 95) || b == 46

-- and ends with none of `-` and `_`
abbrev pub ends_name : ℕ → Bool
ends_name b = is_ascii_alphanumeric b || b == 46

-- an address with colons has hexadecimal digits, `:` and `.`
abbrev pub is_in_address : ℕ → Bool
is_in_address b = (is_ascii_hexdigit b || b == 58) || b == 46

-- an IPv4 address has digits and `.`
abbrev pub is_dotted : ℕ → Bool
is_dotted b = is_ascii_digit b || b == 46
