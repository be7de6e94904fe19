-- The numbers of filter expressions, as C writes them (pcap-filter(7): "integer constants (decimal, octal, hexadecimal in
-- the standard C syntax)"), up to 2^32 - 1.
use Rattle.std.specs.Prelude.{ℕ, ◌^◌, Bool, ◌&&◌, ◌||◌, ◌==◌, not, nat_lt, if◌then◌else◌, List, length, drop, slice_index, Option, Some, None, Result, Ok, Err, option_and_then}
use Rattle.std.specs.List.{list_all, list_any}
use Rattle.std.specs.Char.{is_digit, is_ascii_digit, is_ascii_hexdigit}
use Rattle.std.specs.Str.Parse.{digits_value}
use Rattle.expr_words.specs.declared.fault.WordFaultKind.{WordFaultKind}
use Rattle.expr_words.specs.declared.fault.WordFaultKind.TheVariants.{Octal, Large}

-- the number that the digits write in a base, where all of them are digits of it, and where it is below 2^32
abbrev pub in_base : ℕ → List ℕ → Option ℕ
in_base base digits = if list_all (λ c. is_digit c base) digits && nat_lt (digits_value base digits) (2 ^ 32) then Some (digits_value base digits) else None

abbrev pub is_decimal : List ℕ → Bool
is_decimal text = not (length text == 0) && list_all is_ascii_digit text

abbrev pub is_x : ℕ → Bool
is_x b = b == 120 || b == 88

abbrev pub has_8_or_9 : List ℕ → Bool
has_8_or_9 text = list_any (λ b. b == 56 || b == 57) text

-- `0x` and hexadecimal digits
abbrev pub is_hexadecimal : List ℕ → Bool
is_hexadecimal text =
    ((nat_lt 2 (length text) && slice_index text 0 == 48) && is_x (slice_index text 1)) && list_all is_ascii_hexdigit (drop 2 text)

abbrev pub is_number : List ℕ → Bool
is_number text = is_decimal text || is_hexadecimal text

abbrev pub or_large : Option ℕ → Result ℕ WordFaultKind
or_large (Some n) = Ok n
or_large None = Err Large

-- the value of a number; a 0 before other digits makes it octal
unfoldable pub number : List ℕ → Result ℕ WordFaultKind
number text =
    if is_hexadecimal text then or_large (in_base 16 (drop 2 text))
    else if nat_lt 1 (length text) && slice_index text 0 == 48 then (
    if has_8_or_9 text then Err Octal else or_large (in_base 8 text))
    else or_large (in_base 10 text)

-- the number below 256 that a part of an address writes: decimal, or of one or two hexadecimal digits
abbrev pub octet : ℕ → List ℕ → Option ℕ
octet base part =
    if length part == 0 || (base == 16 && nat_lt 2 (length part)) then None
    else option_and_then (λ n. if nat_lt n 256 then Some n else None) (in_base base part)
