use Rattle.std.proofs.Common.{◌≡◌, ◌<◌, ◌^◌, drop}
use Rattle.std.specs.List.{list_all}
use Rattle.std.specs.Char.{is_digit}
use Rattle.std.specs.Str.Parse.{digits_value, digits_value_after}
use Rattle.filter_listing.proofs.number.in_base.Given as goal

abbrev pub invariant-digits : goal.invariant-digits
invariant-digits l =
    (l.value < 2 ^ 32) × (digits_value_after l.base l.value (drop l.byte-index l.digits) ≡ digits_value l.base l.digits)
    × (list_all (λ c. is_digit c l.base) (drop l.byte-index l.digits) ≡ list_all (λ c. is_digit c l.base) l.digits)
