use Rattle.std.proofs.Common.{◌≡◌, min, take, true}
use Rattle.std.specs.Str.{all_ascii_digits}
use Rattle.std.specs.Str.Parse.{digits_value}
use Rattle.mk_script.proofs.number.number.Given as goal

abbrev pub invariant-loop-digit : goal.invariant-loop-digit
invariant-loop-digit l = record {
  value : l.value ≡ min (digits_value 10 (take l.digit-index l.word)) 18446744073709551616;
  digits : all_ascii_digits (take l.digit-index l.word) ≡ true;
}
