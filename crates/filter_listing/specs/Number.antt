-- Numbers as C writes them.
use Rattle.std.specs.Prelude.{ℕ, ◌-◌, ◌^◌, Bool, ◌&&◌, ◌==◌, nat_lt, if◌then◌else◌, List, length, drop, slice_index, codes, Option, Some, None, option_and_then}
use Rattle.std.specs.List.{list_all, starts_with}
use Rattle.std.specs.Bool.{nat_eq}
use Rattle.std.specs.Char.{is_digit}
use Rattle.std.specs.Str.Parse.{digits_value}

-- the number that one digit or more write in a base
abbrev pub in_base : ℕ → List ℕ → Option ℕ
in_base base digits = if nat_lt 0 (length digits) && list_all (λ c. is_digit c base) digits then Some (digits_value base digits) else None

-- the number, where it is below 2^32
abbrev pub below_2_32 : Option ℕ → Option ℕ
below_2_32 n = option_and_then (λ v. if nat_lt v (2 ^ 32) then Some v else None) n

-- a number below 2^32: `0x` and hexadecimal digits, or decimal digits with no 0 before another
unfoldable pub literal : List ℕ → Option ℕ
literal word =
    if starts_with nat_eq word (codes "0x") then below_2_32 (in_base 16 (drop 2 word))
    else if nat_lt 1 (length word) && slice_index word 0 == 48 then None
    else below_2_32 (in_base 10 word)

-- the 32 bits of a number below 0, and of one that isn't
abbrev pub below_zero : ℕ → Option ℕ
below_zero magnitude = if magnitude == 0 then None else if nat_lt (2 ^ 31) magnitude then None else Some (2 ^ 32 - magnitude)

abbrev pub from_zero : ℕ → Option ℕ
from_zero magnitude = if nat_lt magnitude (2 ^ 31) then Some magnitude else None
