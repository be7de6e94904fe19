-- Numbers as the code has them, in 32 bits. No public clause cites these.
use Rattle.std.specs.Prelude.{ℕ, ◌^◌, nat_lt, if◌then◌else◌, Option, Some, None, option_and_then}

-- the number, where it is below 2^32
abbrev pub below_2_32 : Option ℕ → Option ℕ
below_2_32 n = option_and_then (λ v. if nat_lt v (2 ^ 32) then Some v else None) n
