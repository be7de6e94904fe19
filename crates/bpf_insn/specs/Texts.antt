-- Words and numbers of the texts that people write: blanks part words, and digits spell numbers.
use Rattle.std.specs.Prelude.{ℕ, ◌==◌, ◌||◌, ◌&&◌, not, nat_lt, if◌then◌else◌, Bool, List, length, Option, Some, None, filter}
use Rattle.std.specs.List.{slice_split}
use Rattle.std.specs.Str.{all_ascii_digits}
use Rattle.std.specs.Str.Parse.{digits_value}

-- a space, a tab or a carriage return
abbrev pub is_blank : ℕ → Bool
is_blank b = (b == 32) || (b == 9) || (b == 13)

-- the words of a text, which blanks part
abbrev pub words_of : List ℕ → List (List ℕ)
words_of piece = filter (λ w. not (length w == 0)) (slice_split is_blank piece)

-- the number that a word writes: one decimal digit or more, leading zeros allowed
abbrev pub number_of : List ℕ → Option ℕ
number_of word = if nat_lt 0 (length word) && all_ascii_digits word then Some (digits_value 10 word) else None
