-- Octets as the code has them, six at most. No public clause cites these.
use Rattle.std.specs.Prelude.{ℕ, ◌+◌, ◌*◌, nat_le, if◌then◌else◌, List, length, fold, Option, Some, None, option_and_then}
use Rattle.expr_words.specs.declared.address.Octets.{Octets}
use Rattle.expr_words.specs.Address.{parts, all_octets}

-- octets after some whose count and number are known
abbrev pub sum_after : ℕ → ℕ → List ℕ → Option Octets
sum_after count value ns = if nat_le (count + length ns) 6 then Some (record { count = count + length ns; value = fold (λ v n. v * 256 + n) value ns }) else None

unfoldable pub summed : ℕ → ℕ → List ℕ → Option Octets
summed base separator text = option_and_then (sum_after 0 0) (all_octets base (parts separator text))
