-- Messages and their lines, byte for byte.
use Rattle.std.specs.Prelude.{ℕ, List, [], ◌∷◌, ◌++◌, replicate}

-- a number below 256 in two, four and eight bytes, the lowest first, and what follows it
abbrev pub u16 : ℕ → List ℕ → List ℕ
u16 n more = n ∷ 0 ∷ more

abbrev pub u32 : ℕ → List ℕ → List ℕ
u32 n more = n ∷ 0 ∷ 0 ∷ 0 ∷ more

abbrev pub u64 : ℕ → List ℕ → List ℕ
u64 n more = n ∷ 0 ∷ 0 ∷ 0 ∷ 0 ∷ 0 ∷ 0 ∷ 0 ∷ more

-- three bytes, and the line that holds them as the line of number 5: their length in the upper half of its first word
abbrev pub three : List ℕ
three = 1 ∷ 2 ∷ 3 ∷ []

abbrev pub line_of_three : List ℕ
line_of_three = 0x3_0000_0005 ∷ 0x030201 ∷ 0 ∷ 0 ∷ 0 ∷ 0 ∷ 0 ∷ 0 ∷ []

-- one byte more than a line holds
abbrev pub fifty_seven : List ℕ
fifty_seven = replicate 56 0 ++ 9 ∷ []

-- the lines that hold these after the first 0xffff_ffff of a ring
abbrev pub first_line : List ℕ
first_line = 0x39_ffff_ffff ∷ replicate 7 0

abbrev pub second_line : List ℕ
second_line = 0 ∷ 9 ∷ replicate 6 0
