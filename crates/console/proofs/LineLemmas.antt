-- The lines of a text, from the first line on.
use Rattle.std.proofs.Common.{◌≡◌, ℕ, ◌+◌, ◌<◌, ◌≤◌, ◌==◌, Bool, List, [], ◌∷◌, length, take, drop, get_or, arith, refl, true, false, Option, Some, None, ◌∙◌, ap, MatchOption}
use Rattle.std.specs.List.{slice_split, position_or_len, before_first, after_first, All}
use Rattle.std.specs.Str.Lines.{lines, lines_of_parts, strip_carriage_return}
use Rattle.std.proofs.lemmas.List.Splits.{slice_split_first, slice_split_none, length-slice_split}
use Rattle.std.proofs.lemmas.List.Sums.{position_or_len_is, fails_before_first}
use Rattle.memchr.specs.Find.{IsFirstByte, is_byte}

-- a part that another follows is a line
line_before : (x : List ℕ) (parts : List (List ℕ)) → 0 < length parts → lines_of_parts (x ∷ parts) ≡ strip_carriage_return x ∷ lines_of_parts parts
line_before x [] some = absurd (omega arith)
line_before x (y ∷ more) some = refl

-- the same of the parts of a text
line_before_parts : (x ys : List ℕ) → lines_of_parts (x ∷ slice_split (λ b. b == 10) ys) ≡ strip_carriage_return x ∷ lines ys
line_before_parts x ys = line_before x (slice_split (λ b. b == 10) ys) (omega (arith, length-slice_split (λ b. b == 10) ys))

-- a text with a newline is the line before it, and the lines of the rest
pub lines_first : (bs : List ℕ) (i : ℕ) → i < length bs → position_or_len (λ b. b == 10) bs ≡ i → lines bs ≡ strip_carriage_return (take i bs) ∷ lines (drop (i + 1) bs)
lines_first bs i within at =
    ap lines_of_parts (slice_split_first (λ b. b == 10) bs 0 (omega (arith, within, at)))
    ∙ line_before_parts (before_first (λ b. b == 10) bs) (after_first (λ b. b == 10) bs)
    ∙ ap (λ n. strip_carriage_return (take n bs) ∷ lines (drop (n + 1) bs)) at

-- a part that is not empty is the one line
alone : (x : List ℕ) → 0 < length x → lines_of_parts (x ∷ []) ≡ x ∷ []
alone x some = grind arith

-- a text with no newline is one line
pub lines_last : (bs : List ℕ) → 0 < length bs → length bs ≤ position_or_len (λ b. b == 10) bs → lines bs ≡ bs ∷ []
lines_last bs some all =
    let no : All (λ x. (x == 10) ≡ false) bs = λ k d within. fails_before_first (λ b. b == 10) bs k d (omega arith) in
    ap lines_of_parts (slice_split_none (λ b. b == 10) bs no) ∙ alone bs some

not_true : (b : Bool) → (b ≡ true → ⊥) → b ≡ false
not_true true never = absurd (never refl)
not_true false never = refl

-- the first newline that a search finds
pub newline_first : (bs : List ℕ) (r : Option ℕ) → IsFirstByte (is_byte 10) bs r
    → MatchOption r (length bs ≤ position_or_len (λ b. b == 10) bs) (λ i. (i < length bs) × (position_or_len (λ b. b == 10) bs ≡ i))
newline_first bs None nowhere =
    let e : position_or_len (λ b. b == 10) bs ≡ length bs = position_or_len_is (λ b. b == 10) bs (length bs) 0 (omega arith)
    (λ k low. not_true (get_or bs k 0 == 10) (nowhere k (omega arith) low)) (λ h. absurd (omega arith)) in
    omega (arith, e)
newline_first bs (Some i) found = (
  found.0.high,
  position_or_len_is (λ b. b == 10) bs i 0 (omega (arith, found.0.high))
      (λ k low. not_true (get_or bs k 0 == 10) (found.0.before k (omega arith) low)) (λ _. found.1),
)
