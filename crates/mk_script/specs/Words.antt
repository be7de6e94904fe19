-- The words of a script's lines: names and numbers.
use Rattle.std.specs.Prelude.{ℕ, ◌==◌, ◌&&◌, ◌||◌, nat_le, nat_lt, if◌then◌else◌, Bool, false, List, [], ◌∷◌, length, Option, Some, None, option_and_then, Result, Ok, Err}
use Rattle.std.specs.Option.{ok_or}
use Rattle.std.specs.List.{list_all}
use Rattle.std.specs.Char.{is_ascii_alphabetic, is_ascii_alphanumeric}
use Rattle.bpf_insn.specs.Texts.{number_of}
use Rattle.mk_script.specs.declared.fault.ScriptFaultKind.{ScriptFaultKind}
use Rattle.mk_script.specs.declared.fault.ScriptFaultKind.TheVariants.{BadNumber}

-- the first fault in the order in which it is looked for
infixl 10 ◌>>=◌
abbrev pub ◌>>=◌ : {A B : Type 0} → Result A ScriptFaultKind → (A → Result B ScriptFaultKind) → Result B ScriptFaultKind
(Ok x) >>= f = f x
(Err e) >>= f = Err e

-- a fault where a test fails
abbrev pub check : Bool → ScriptFaultKind → Result (Unit {0}) ScriptFaultKind
check passes fault = if passes then Ok tt else Err fault

-- a letter, a digit or `_`
abbrev pub continues_name : ℕ → Bool
continues_name b = is_ascii_alphanumeric b || b == 95

-- a letter, then letters, digits and `_`: 32 bytes at most
abbrev pub is_name : List ℕ → Bool
is_name [] = false
is_name (first ∷ more) = (is_ascii_alphabetic first && list_all continues_name more) && nat_lt (length more) 32

-- a number of any length
abbrev pub whole_number : List ℕ → Result ℕ ScriptFaultKind
whole_number word = ok_or (number_of word) BadNumber

-- a number below a limit
abbrev pub below : ℕ → Option ℕ → Option ℕ
below limit n = option_and_then (λ v. if nat_lt v limit then Some v else None) n

abbrev pub number_below : ℕ → List ℕ → Result ℕ ScriptFaultKind
number_below limit word = ok_or (below limit (number_of word)) BadNumber

-- a number from 1 to the most
abbrev pub up_to : ℕ → Option ℕ → Option ℕ
up_to most n = option_and_then (λ v. if nat_le 1 v && nat_le v most then Some v else None) n

abbrev pub number_up_to : ℕ → List ℕ → Result ℕ ScriptFaultKind
number_up_to most word = ok_or (up_to most (number_of word)) BadNumber
