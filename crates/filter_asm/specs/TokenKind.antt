-- The kinds of token. No public clause cites these.
use Rattle.std.specs.Prelude.{ℕ, List, [], ◌∷◌, if◌then◌else◌}
use Rattle.std.specs.Char.{is_ascii_digit}
use Rattle.filter_asm.specs.declared.token.TokenKind.{TokenKind}
use Rattle.filter_asm.specs.declared.token.TokenKind.TheVariants.{Name, Digits, Mark}
use Rattle.filter_asm.specs.Token.{begins_name}

abbrev pub kind_by : ℕ → TokenKind
kind_by first = if begins_name first then Name else if is_ascii_digit first then Digits else Mark

-- the kind of a token goes by its first byte
abbrev pub kind_of : List ℕ → TokenKind
kind_of [] = Mark
kind_of (first ∷ more) = kind_by first
