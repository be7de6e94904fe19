-- On counts of lines.
use Rattle.std.proofs.Common.{◌≡◌, ◌+◌, ◌%◌, ◌∷◌, [], ◌++◌, ℕ, zero, suc, List, length, refl, arith, ap, ◌∙◌, length-append, append_assoc, sym, add-one, Bool, true, false, nat_le, ◌≤◌}
use Rattle.std.proofs.lemmas.List.{append-nil}
use Rattle.ump_ring.specs.Lines.{lines_below, line_at, number_after}

pub length-lines_below : (size : ℕ) (bytes : List ℕ) (before count : ℕ) → length (lines_below size bytes before count) ≡ count
length-lines_below size bytes before zero = refl
length-lines_below size bytes before (suc count) =
    omega (arith, length-lines_below size bytes before count, length-append (lines_below size bytes before count) (line_at size bytes (number_after (before + count)) count ∷ []))

-- one line more, under the number of the lines so far
pub lines_more : (sent before : List (List ℕ)) (size : ℕ) (bytes : List ℕ) (count number : ℕ)
    → sent ≡ before ++ lines_below size bytes (length before) count → number ≡ number_after (length sent)
    → sent ++ line_at size bytes number count ∷ [] ≡ before ++ lines_below size bytes (length before) (count + 1)
lines_more sent before size bytes count number is numbered =
    let long : length sent ≡ length before + count =
    ap length is ∙ omega (arith, length-append before (lines_below size bytes (length before) count), length-lines_below size bytes (length before) count) in
    let n : number ≡ number_after (length before + count) = numbered ∙ ap number_after long in
    let more : lines_below size bytes (length before) (count + 1) ≡ lines_below size bytes (length before) count ++ line_at size bytes (number_after (length before + count)) count ∷ [] = rw add-one refl in
    ap (λ l. l ++ line_at size bytes number count ∷ []) is ∙ append_assoc before (lines_below size bytes (length before) count) (line_at size bytes number count ∷ [])
    ∙ ap (λ x. before ++ (lines_below size bytes (length before) count ++ line_at size bytes x count ∷ [])) n ∙ ap (λ l. before ++ l) (sym more)

pub number_next : (a : ℕ) → (number_after a + 1) % 4294967296 ≡ number_after (a + 1)
number_next a = omega arith

-- fewer lines are the first of more
pub below-more : (size : ℕ) (bytes : List ℕ) (before out count : ℕ) → out ≤ count → (rest : List (List ℕ)) × (lines_below size bytes before out ++ rest ≡ lines_below size bytes before count)
below-more size bytes before out zero h =
    let none : out ≡ 0 = omega arith in
    ([], ap (λ n. lines_below size bytes before n ++ []) none)
below-more size bytes before out (suc count) h = at (nat_le out count) refl (below-more size bytes before out count)
  where
    at : (b : Bool) → nat_le out count ≡ b → (out ≤ count → (rest : List (List ℕ)) × (lines_below size bytes before out ++ rest ≡ lines_below size bytes before count))
        → (rest : List (List ℕ)) × (lines_below size bytes before out ++ rest ≡ lines_below size bytes before (suc count))
    at true e fewer =
        let within : out ≤ count = grind arith in
        let (rest, is) = fewer within in
        let last : List (List ℕ) = line_at size bytes (number_after (before + count)) count ∷ [] in
        (rest ++ last, sym (append_assoc (lines_below size bytes before out) rest last) ∙ ap (λ t. t ++ last) is)
    at false e fewer =
        let same : out ≡ suc count = grind arith in
        ([], append-nil (lines_below size bytes before out) ∙ ap (λ n. lines_below size bytes before n) same)
