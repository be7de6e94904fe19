-- The numbers of assembler text, as C writes them (Linux, tools/bpf/bpf_exp.l), without octal and binary.
use Rattle.std.specs.Prelude.{ℕ, ◌-◌, ◌%◌, ◌^◌, Bool, ◌&&◌, ◌==◌, nat_lt, nat_le, if◌then◌else◌, List, length, drop, slice_index, codes, Option, Some, None, option_and_then}
use Rattle.std.specs.List.{list_all, starts_with}
use Rattle.std.specs.Bool.{nat_eq}
use Rattle.std.specs.Char.{is_digit}
use Rattle.std.specs.Str.Parse.{digits_value}

-- the number that the digits write in a base, where all of them are digits of it
abbrev pub in_base : ℕ → List ℕ → Option ℕ
in_base base digits = if list_all (λ c. is_digit c base) digits then Some (digits_value base digits) else None

-- the number that a digit token writes: `0x` and hexadecimal digits, or decimal digits with no 0 before another
unfoldable pub magnitude : List ℕ → Option ℕ
magnitude token =
    if starts_with nat_eq token (codes "0x") && nat_lt 2 (length token) then in_base 16 (drop 2 token)
    else if nat_lt 1 (length token) && slice_index token 0 == 48 then None
    else in_base 10 token

-- a number below 2^32 as it stands; after a `-` one up to 2^31, as its two's complement
abbrev pub signed : Bool → ℕ → Option ℕ
signed negative n =
    if negative then (if nat_le n (2 ^ 31) then Some ((2 ^ 32 - n) % 2 ^ 32) else None)
    else (if nat_lt n (2 ^ 32) then Some n else None)

-- the value of a number: a digit token, after a `-` or not
unfoldable pub number : Bool → List ℕ → Option ℕ
number negative token = option_and_then (signed negative) (magnitude token)
