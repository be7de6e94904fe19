-- What the words of a line say.
use Rattle.std.specs.Prelude.{ℕ, ◌==◌, ◌&&◌, ◌||◌, nat_lt, Bool, List, [], length, codes}
use Rattle.std.specs.List.{list_all}
use Rattle.std.specs.Char.{is_ascii_alphanumeric, is_ascii_digit}
use Rattle.std.specs.Str.{bytes_eq}
use Rattle.line_words.specs.Words.{word_at}

-- one decimal digit or more
abbrev pub is_number : List ℕ → Bool
is_number word = nat_lt 0 (length word) && list_all is_ascii_digit word

-- the first word is this one
abbrev pub says : List ℕ → List (List ℕ) → Bool
says word words = bytes_eq (word_at words 0) word

-- and a number follows
abbrev pub says_number : List ℕ → List (List ℕ) → Bool
says_number word words = says word words && is_number (word_at words 1)

-- a letter, a digit, a space, `:` or `=`: no byte that means something to XML
abbrev pub is_plain : ℕ → Bool
is_plain b = (is_ascii_alphanumeric b || b == 32) || (b == 58 || b == 61)

-- a word of a refusal, a veto or an event that wasn't done
abbrev pub is_no : List ℕ → Bool
is_no word =
    (bytes_eq word (codes "refused") || bytes_eq word (codes "fault")) || (bytes_eq word (codes "Budget") || (bytes_eq word (codes "NoMemory") || bytes_eq word (codes "abort")))

-- no line of an event: the empty one, those of tables and of packets that were left
abbrev pub is_other : List ℕ → Bool
is_other word = (bytes_eq word [] || bytes_eq word (codes "left")) || (bytes_eq word (codes "show") || (bytes_eq word (codes "cap") || bytes_eq word (codes "filter")))
