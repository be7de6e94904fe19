-- What stands behind a sign that closes, and what a `(` begins.
use Rattle.std.specs.Prelude.{ℕ, zero, suc, Bool, not, ◌&&◌, ◌||◌, if◌then◌else◌, List, [], ◌∷◌, drop, is_some}
use Rattle.expr_words.specs.declared.token.Token.{Token}
use Rattle.expr_words.specs.declared.word.Sign.TheVariants as signs
use Rattle.expr_parse.specs.Words.{number, is_address_or_name, sees}
use Rattle.expr_parse.specs.Operators.{continues_calc}

abbrev pub opens : List Token → Bool
opens tokens = sees signs.Open tokens || sees signs.OpenBracket tokens

abbrev pub closes : List Token → Bool
closes tokens = sees signs.Close tokens || sees signs.CloseBracket tokens

-- what stands behind the sign that closes what is open before these tokens; the number tells how many more are open inside
abbrev pub after_close : ℕ → List Token → List Token
after_close inside [] = []
after_close zero (t ∷ ts) = if opens (t ∷ ts) then after_close 1 ts else if closes (t ∷ ts) then ts else after_close zero ts
after_close (suc inside) (t ∷ ts) =
    if opens (t ∷ ts) then after_close (suc (suc inside)) ts else if closes (t ∷ ts) then after_close inside ts else after_close (suc inside) ts

-- a `(` begins a calculation where one goes on behind its `)`
unfoldable pub begins_calc : List Token → Bool
begins_calc tokens = sees signs.Open tokens && continues_calc (after_close 0 (drop 1 tokens))

abbrev pub begins_group : List Token → Bool
begins_group tokens = sees signs.Open tokens && not (begins_calc tokens)

-- what stands behind each `(` at the front that begins no calculation
unfoldable pub past_opens : List Token → List Token
past_opens [] = []
past_opens (t ∷ ts) = if begins_group (t ∷ ts) then past_opens ts else t ∷ ts

-- an item comes: an address or a name, or a number that no calculation goes on behind
abbrev pub is_item : List Token → Bool
is_item tokens = is_address_or_name tokens || (is_some (number tokens) && not (continues_calc (drop 1 tokens)))

-- an item comes, also in parentheses
unfoldable pub begins_item : List Token → Bool
begins_item tokens = is_item (past_opens tokens)
