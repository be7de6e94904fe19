-- The numbers of the verifier's rules, by which printed lines and messages name a refusal, and the places in refusals.
-- The rules are numbered in the order in which they are looked for.
use Rattle.std.specs.Prelude.{ℕ}
use Rattle.filter_verify.specs.declared.rules.Refusal.{Refusal}
use Rattle.filter_verify.specs.declared.rules.Refusal.TheVariants.{Empty, TooLong, BadCode, ZeroDivisor, BadShift, BadWord, JumpOut, Ancillary, NoReturn, Unwritten, NoMemory}

-- the number of a refusal's rule: NoMemory is no rule
abbrev pub number_of : Refusal → ℕ
number_of Empty = 1
number_of TooLong = 2
number_of (BadCode pc) = 3
number_of (ZeroDivisor pc) = 4
number_of (BadShift pc) = 5
number_of (BadWord pc) = 6
number_of (JumpOut pc) = 7
number_of (Ancillary pc) = 8
number_of NoReturn = 9
number_of (Unwritten pc word path) = 10
number_of NoMemory = 0

-- the place of the instruction that is refused: 0 where no single one is
abbrev pub place_of : Refusal → ℕ
place_of Empty = 0
place_of TooLong = 0
place_of (BadCode pc) = pc
place_of (ZeroDivisor pc) = pc
place_of (BadShift pc) = pc
place_of (BadWord pc) = pc
place_of (JumpOut pc) = pc
place_of (Ancillary pc) = pc
place_of NoReturn = 0
place_of (Unwritten pc word path) = pc
place_of NoMemory = 0
