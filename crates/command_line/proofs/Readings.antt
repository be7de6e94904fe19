-- What is read of the rows of arguments.
use Rattle.std.proofs.Common.{◌≡◌, ◌∙◌, ℕ, Bool, true, false, Option, Some, None, refl}
use Rattle.std.specs.Prelude.{codes, option_map, unwrap_or}
use Rattle.clap.specs.Words.{ReadsOne, Text, found_of, one_text, rows_of}
use Rattle.clap.specs.declared.parser.matches.ArgMatches.{ArgMatches}
use Rattle.clap.proofs.WalkLemmas.{one_text-rows}
use Rattle.std.specs.Str.Parse.{ExplainsUnsignedError, HasUnsignedDigitsIfOk, ParsesUnsigned}
use Rattle.std.specs.declared.num.ParseIntError.{ParseIntError}
use Rattle.command_line.specs.Requests.{IsFlag, SpellsNumber}

pub or_else : {X Y : Type 0} (f : X → Y) (o : Option X) (other : X) → f (unwrap_or o other) ≡ unwrap_or (option_map f o) (f other)
or_else f None other = refl
or_else f (Some x) other = refl

pub is_flag : (m : ArgMatches) (name : Text) (given : Bool)
    → (one_text (found_of m) name ≡ Some (codes "true") → given ≡ true)
    → (one_text (found_of m) name ≡ Some (codes "false") → given ≡ false)
    → IsFlag name (rows_of (found_of m)) given
is_flag m name given when_true when_false =
    (λ is. when_true (one_text-rows (found_of m) name ∙ is), λ is. when_false (one_text-rows (found_of m) name ∙ is))

-- a text that is read as a number, or not
pub spelled_number : (text : Text) (link : Option ℕ)
    → ReadsOne {T = ℕ} {E = ParseIntError} (λ t r. ParsesUnsigned 32 10 t r × ExplainsUnsignedError 10 t r × HasUnsignedDigitsIfOk t r) text link → SpellsNumber text link
spelled_number text None reads = reads.1.0
spelled_number text (Some n) reads = reads.0
