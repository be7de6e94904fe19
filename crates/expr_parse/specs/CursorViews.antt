-- What a cursor shows, and its table. No public clause cites these.
use Rattle.std.specs.Prelude.{◌≡◌, ℕ, ◌+◌, ◌≤◌, List, length, drop, slice_index}
use Rattle.expr_words.specs.declared.token.Token.{Token}
use Rattle.expr_parse.specs.Brackets.{after_close}

-- a place behind the sign that closes what is open at a place
abbrev pub IsPlaceAfter : List Token → ℕ → ℕ → Type 0
IsPlaceAfter tokens place after = (place ≤ after) × (after ≤ length tokens) × (drop after tokens ≡ after_close 0 (drop place tokens))

-- for each place from one on
abbrev pub AfterFrom : List Token → List ℕ → ℕ → Type 0
AfterFrom tokens after from = (k : ℕ) → from ≤ k → k ≤ length tokens → IsPlaceAfter tokens k (slice_index after k)

abbrev pub IsAfter : List Token → List ℕ → Type 0
IsAfter tokens after = (length after ≡ length tokens + 1) × AfterFrom tokens after 0
