-- The tokens of a line of assembler text, after Linux's bpf_asm (tools/bpf/bpf_exp.l): without its comments over lines,
-- and with `;` where it has them to the end of a line.
use Rattle.std.specs.Prelude.{◌≡◌, ℕ, Bool, false, ◌||◌, ◌&&◌, ◌==◌, if◌then◌else◌, List, [], ◌∷◌, ◌++◌}
use Rattle.std.specs.List.{AllPass, before_first}
use Rattle.bpf_insn.specs.Texts.{is_blank}
use Rattle.std.specs.Char.{is_ascii_alphabetic, is_ascii_alphanumeric, is_ascii_digit}

-- a letter or `_`
abbrev pub begins_name : ℕ → Bool
begins_name b = is_ascii_alphabetic b || b == 95

-- a letter, a digit or `_`
abbrev pub continues_name : ℕ → Bool
continues_name b = is_ascii_alphanumeric b || b == 95

-- whether a byte may stand in the token that begins with `first`, after its first byte: a name goes on
-- with letters, digits and `_`, a digit with letters and digits, and any other byte stands alone
abbrev pub continues : ℕ → ℕ → Bool
continues first b = if begins_name first then continues_name b else (is_ascii_digit first && is_ascii_alphanumeric b)

-- a token: it begins with no blank, and each byte after the first may stand there
abbrev pub IsToken : List ℕ → Type 0
IsToken [] = ⊥
IsToken (first ∷ more) = (is_blank first ≡ false) × AllPass (continues first) more

-- a token is as long as it can be: the byte after it isn't a part of it
abbrev pub EndsBefore : List ℕ → List ℕ → Type 0
EndsBefore (first ∷ more) (b ∷ rest) = continues first b ≡ false
EndsBefore token rest = Unit {0}

-- the bytes begin with blanks and a token, and the rest stands after it
pub record TokenAt (bytes token rest : List ℕ) : Type 0 where
  pub gap : List ℕ
  pub blank : AllPass is_blank gap
  pub is_token : IsToken token
  pub ends : EndsBefore token rest
  pub spelled : bytes ≡ gap ++ (token ++ rest)

-- the bytes are these tokens in order, with blanks round them
abbrev pub Tokens : List (List ℕ) → List ℕ → Type 0
Tokens [] bytes = AllPass is_blank bytes
Tokens (token ∷ tokens) bytes = (rest : List ℕ) × TokenAt bytes token rest × Tokens tokens rest

-- a line without its comment
abbrev pub without_comment : List ℕ → List ℕ
without_comment line = before_first (λ b. b == 59) line

-- a letter or `_` first
abbrev pub is_name : List ℕ → Bool
is_name [] = false
is_name (first ∷ more) = begins_name first

-- a digit first
abbrev pub is_digits : List ℕ → Bool
is_digits [] = false
is_digits (first ∷ more) = is_ascii_digit first
