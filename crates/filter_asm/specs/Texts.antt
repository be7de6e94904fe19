-- Tokens as contracts see them: their bytes. No public clause cites these.
use Rattle.std.specs.Prelude.{ℕ, List, map}
use Rattle.filter_asm.specs.declared.token.Token.{Token}

abbrev pub texts : List Token → List (List ℕ)
texts tokens = map (λ t. t.text.now) tokens
