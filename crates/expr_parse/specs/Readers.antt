-- Readers take tokens off the front, and give what they are and the tokens behind them; none where they are not that.
use Rattle.std.specs.Prelude.{ℕ, zero, suc, ◌+◌, if◌then◌else◌, List, length, drop, Option, Some, None, is_some, option_and_then, option_map}
use Rattle.std.specs.Option.{option_map_or}
use Rattle.expr_words.specs.declared.token.Token.{Token}
use Rattle.expr_words.specs.declared.word.Sign.{Sign}
use Rattle.expr_parse.specs.Words.{sees}

abbrev pub Reader : Type 0 → Type 0
Reader A = List Token → Option (A × List Token)

-- one after another
infixl 10 ◌>>=◌
abbrev pub ◌>>=◌ : {A B : Type 0} → Reader A → (A → Reader B) → Reader B
reader >>= more = λ tokens. option_and_then (λ r. more r.0 r.1) (reader tokens)

infixl 10 ◌>>◌
abbrev pub ◌>>◌ : {A B : Type 0} → Reader A → Reader B → Reader B
reader >> more = reader >>= (λ _. more)

abbrev pub pure : {A : Type 0} → A → Reader A
pure a = λ tokens. Some (a, tokens)

abbrev pub refuse : {A : Type 0} → Reader A
refuse = λ tokens. None

-- the next token, whatever it is
abbrev pub next : Reader (Unit {0})
next = λ tokens. Some (tt, drop 1 tokens)

-- the next token, where it says something
abbrev pub take : {A : Type 0} → (List Token → Option A) → Reader A
take says = λ tokens. option_map (λ a. (a, drop 1 tokens)) (says tokens)

-- the same, where it may also say nothing, and is left then
abbrev pub optional : {A : Type 0} → (List Token → Option A) → Reader (Option A)
optional says = λ tokens. Some (says tokens, option_map_or (λ _. drop 1 tokens) (says tokens) tokens)

-- this sign
abbrev pub expect : Sign → Reader (Unit {0})
expect sign = λ tokens. if sees sign tokens then Some (tt, drop 1 tokens) else None

-- the next token says no such thing
abbrev pub ends : {A : Type 0} → (List Token → Option A) → Reader (Unit {0})
ends says = λ tokens. if is_some (says tokens) then None else Some (tt, tokens)

-- { sign operand }: what stands left is joined to each operand in turn; the number bounds the turns
abbrev pub chain_by : {A B S : Type 0} → (A → Reader B) → (S → A → B → A) → A → (A → Reader A) → Option S → Reader A
chain_by operand join left more None = pure left
chain_by operand join left more (Some sign) = do
  right ← operand left
  more (join sign left right)

unfoldable pub chain : {A B S : Type 0} → (List Token → Option S) → (A → Reader B) → (S → A → B → A) → ℕ → A → Reader A
chain says operand join zero left = pure left
chain says operand join (suc n) left = do
  sign ← optional says
  chain_by operand join left (chain says operand join n) sign

-- each turn takes a token
abbrev pub many : {A B S : Type 0} → (List Token → Option S) → (A → Reader B) → (S → A → B → A) → A → Reader A
many says operand join left = λ tokens. chain says operand join (length tokens + 1) left tokens
