-- What `tcpdump -dd` prints of an instruction: an initializer in C, here with any blanks between its tokens.
use Rattle.std.specs.Prelude.{◌≡◌, ◌⊎◌, ℕ, ◌==◌, ◌||◌, if◌then◌else◌, Bool, List, [], ◌∷◌, length, codes, Some}
use Rattle.std.specs.List.{flat_map}
use Rattle.bpf_insn.specs.Table.{InRange}
use Rattle.bpf_insn.specs.Texts.{words_of}
use Rattle.bpf_insn.specs.declared.insn.Insn.{Insn}
use Rattle.line_words.specs.Words.{word_at}
use Rattle.filter_listing.specs.Number.{literal}

-- a brace or a comma
abbrev pub is_mark : ℕ → Bool
is_mark b = (b == 123) || (b == 125) || (b == 44)

-- marks with a space on either side
abbrev pub spaced_byte : ℕ → List ℕ
spaced_byte b = if is_mark b then 32 ∷ b ∷ 32 ∷ [] else b ∷ []

abbrev pub spaced : List ℕ → List ℕ
spaced line = flat_map spaced_byte line

-- the marks, and the words between them
abbrev pub tokens : List ℕ → List (List ℕ)
tokens line = words_of (spaced line)

-- `{`, commas between four words, and `}`, with a comma after it or not
pub record HasMarks (words : List (List ℕ)) : Type 0 where
  pub opens : word_at words 0 ≡ codes "{"
  pub first : word_at words 2 ≡ codes ","
  pub second : word_at words 4 ≡ codes ","
  pub third : word_at words 6 ≡ codes ","
  pub closes : word_at words 8 ≡ codes "}"
  pub ends : (length words ≡ 9) ⊎ ((length words ≡ 10) × (word_at words 9 ≡ codes ","))

-- between the marks are code, jt, jf and k
pub record IsInitializer (words : List (List ℕ)) (insn : Insn) : Type 0 where
  pub marks : HasMarks words
  pub code : literal (word_at words 1) ≡ Some insn.code
  pub jt : literal (word_at words 3) ≡ Some insn.jt
  pub jf : literal (word_at words 5) ≡ Some insn.jf
  pub k : literal (word_at words 7) ≡ Some insn.k
  pub range : InRange insn
