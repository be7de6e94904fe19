-- More bytes of a message leave the lines before them as they were.
use Rattle.std.proofs.Common.{◌≡◌, ℕ, zero, suc, ◌+◌, ◌*◌, ◌<◌, ◌≤◌, ◌==◌, List, [], ◌∷◌, ◌++◌, length, get_or, slice_index, take, drop, refl, ap, sym, ◌∙◌, arith, true}
use Rattle.std.specs.Int.{from_le_bytes, w64}
use Rattle.std.specs.List.{list_all}
use Rattle.std.proofs.lemmas.Grind.{same_number_lists}
use Rattle.std.proofs.lemmas.List.{get_or_append_left, get_or-append-add}
use Rattle.ump_ring.specs.Lines.{word_at, line_at, lines_below, payload, number_after}
use Rattle.ump_ring.proofs.Windows.{window, length-window, get_or-window, bytes_at-window}

pub cons-both : (x y : ℕ) (xs ys : List ℕ) → x ≡ y → xs ≡ ys → x ∷ xs ≡ y ∷ ys
cons-both x y xs ys e f = ap (λ z. z ∷ xs) e ∙ ap (λ l. y ∷ l) f

window-more : (bytes more : List ℕ) (at j count : ℕ) → at + j + count ≤ length bytes → window (bytes ++ more) at j count ≡ window bytes at j count
window-more bytes more at j zero h = refl
window-more bytes more at j (suc count) h =
    let within : at + j < length bytes = omega arith in
    let next : at + (j + 1) + count ≤ length bytes = omega arith in
    cons-both (slice_index (bytes ++ more) (at + j)) (slice_index bytes (at + j)) (window (bytes ++ more) at (j + 1) count) (window bytes at (j + 1) count)
    (get_or_append_left bytes more 0 (at + j) within) (window-more bytes more at (j + 1) count next)

word_at-more : (bytes more : List ℕ) (at : ℕ) → at + 8 ≤ length bytes → word_at (bytes ++ more) at ≡ word_at bytes at
word_at-more bytes more at h =
    let within : at + 0 + 8 ≤ length bytes = omega arith in
    ap (from_le_bytes w64) (bytes_at-window (bytes ++ more) at ∙ window-more bytes more at 0 8 within ∙ sym (bytes_at-window bytes at))

line_at-more : (size : ℕ) (bytes more : List ℕ) (number place : ℕ) → 56 * place + 56 ≤ length bytes
    → line_at size (bytes ++ more) number place ≡ line_at size bytes number place
line_at-more size bytes more number place h =
    let at : ℕ = 56 * place in
    let w : ℕ → ℕ = λ i. word_at bytes (at + i) in
    let v : ℕ → ℕ = λ i. word_at (bytes ++ more) (at + i) in
    let head : ℕ = slice_index (line_at size bytes number place) 0 in
    cons-both head head (word_at (bytes ++ more) at ∷ v 8 ∷ v 16 ∷ v 24 ∷ v 32 ∷ v 40 ∷ v 48 ∷ []) (word_at bytes at ∷ w 8 ∷ w 16 ∷ w 24 ∷ w 32 ∷ w 40 ∷ w 48 ∷ []) refl
    (cons-both (word_at (bytes ++ more) at) (word_at bytes at) (v 8 ∷ v 16 ∷ v 24 ∷ v 32 ∷ v 40 ∷ v 48 ∷ []) (w 8 ∷ w 16 ∷ w 24 ∷ w 32 ∷ w 40 ∷ w 48 ∷ []) (word_at-more bytes more at (omega arith))
    (cons-both (v 8) (w 8) (v 16 ∷ v 24 ∷ v 32 ∷ v 40 ∷ v 48 ∷ []) (w 16 ∷ w 24 ∷ w 32 ∷ w 40 ∷ w 48 ∷ []) (word_at-more bytes more (at + 8) (omega arith))
    (cons-both (v 16) (w 16) (v 24 ∷ v 32 ∷ v 40 ∷ v 48 ∷ []) (w 24 ∷ w 32 ∷ w 40 ∷ w 48 ∷ []) (word_at-more bytes more (at + 16) (omega arith))
    (cons-both (v 24) (w 24) (v 32 ∷ v 40 ∷ v 48 ∷ []) (w 32 ∷ w 40 ∷ w 48 ∷ []) (word_at-more bytes more (at + 24) (omega arith))
    (cons-both (v 32) (w 32) (v 40 ∷ v 48 ∷ []) (w 40 ∷ w 48 ∷ []) (word_at-more bytes more (at + 32) (omega arith))
    (cons-both (v 40) (w 40) (v 48 ∷ []) (w 48 ∷ []) (word_at-more bytes more (at + 40) (omega arith))
    (cons-both (v 48) (w 48) [] [] (word_at-more bytes more (at + 48) (omega arith)) refl)))))))

pub lines_below-more : (size : ℕ) (bytes more : List ℕ) (before count : ℕ) → 56 * count ≤ length bytes
    → lines_below size (bytes ++ more) before count ≡ lines_below size bytes before count
lines_below-more size bytes more before zero h = refl
lines_below-more size bytes more before (suc count) h =
    let fewer : 56 * count ≤ length bytes = omega arith in
    let row : 56 * count + 56 ≤ length bytes = omega arith in
    ap (λ t. t ++ line_at size (bytes ++ more) (number_after (before + count)) count ∷ []) (lines_below-more size bytes more before count fewer)
    ∙ ap (λ l. lines_below size bytes before count ++ l ∷ []) (line_at-more size bytes more (number_after (before + count)) count row)

pub zeros-at : (xs : List ℕ) (i : ℕ) → list_all (λ b. b == 0) xs ≡ true → get_or xs i 0 ≡ 0
zeros-at [] i h = refl
zeros-at (x ∷ xs) zero h = grind arith
zeros-at (x ∷ xs) (suc i) h = zeros-at xs i (grind arith)

pub zeros-from : (xs : List ℕ) → ((i : ℕ) → get_or xs i 0 ≡ 0) → list_all (λ b. b == 0) xs ≡ true
zeros-from [] h = refl
zeros-from (x ∷ xs) h =
    let first : x ≡ 0 = h 0 in
    let rest : list_all (λ b. b == 0) xs ≡ true = zeros-from xs (λ i. h (suc i)) in
    rw first rest

pub get_or-dropped : (r : ℕ) (xs : List ℕ) (i : ℕ) → get_or (drop r xs) i 0 ≡ get_or xs (r + i) 0
get_or-dropped zero xs i = ap (λ n. get_or xs n 0) (let e : i ≡ 0 + i = omega arith in e)
get_or-dropped (suc r) [] i = refl
get_or-dropped (suc r) (x ∷ xs) i = get_or-dropped r xs i ∙ ap (λ n. get_or (x ∷ xs) n 0) (let e : suc (r + i) ≡ suc r + i = omega arith in e)

get_or-take_past : (r : ℕ) (xs : List ℕ) (i : ℕ) → r ≤ i → get_or (take r xs) i 0 ≡ 0
get_or-take_past zero xs i h = refl
get_or-take_past (suc r) [] i h = refl
get_or-take_past (suc r) (x ∷ xs) zero h = absurd (omega arith)
get_or-take_past (suc r) (x ∷ xs) (suc i) h = get_or-take_past r xs i (omega arith)

pub length-payload : (line : List ℕ) → length line ≡ 8 → length (payload line) ≡ 56
length-payload (x ∷ a ∷ b ∷ c ∷ d ∷ e ∷ f ∷ g ∷ []) h = refl
length-payload line h = absurd (omega arith)

-- the bytes of a line, those past the message's end being 0, are those of its place
pub payload-window : (line bytes : List ℕ) (room place : ℕ) → length line ≡ 8 → length bytes ≡ 56 * place
    → list_all (λ b. b == 0) (drop room (payload line)) ≡ true → payload line ≡ window (bytes ++ take room (payload line)) (56 * place) 0 56
payload-window line bytes room place eight long zeros =
    let held = payload line in
    same_number_lists held (window (bytes ++ take room held) (56 * place) 0 56)
    (length-payload line eight ∙ sym (length-window (bytes ++ take room held) (56 * place) 0 56))
    (λ i lt.
    let within : i < 56 = omega (arith, length-payload line eight) in
    let e : length bytes + i ≡ 56 * place + 0 + i = omega arith in
    let there : get_or (window (bytes ++ take room held) (56 * place) 0 56) i 0 ≡ get_or (take room held) i 0 =
    get_or-window (bytes ++ take room held) (56 * place) 0 56 i within ∙ ap (λ n. get_or (bytes ++ take room held) n 0) (sym e) ∙ get_or-append-add bytes (take room held) i 0 in
    kept held room i zeros ∙ sym there)
  where
    kept : (held : List ℕ) (room i : ℕ) → list_all (λ b. b == 0) (drop room held) ≡ true → get_or held i 0 ≡ get_or (take room held) i 0
    kept held zero i zeros = zeros-at held i zeros
    kept [] (suc room) i zeros = refl
    kept (x ∷ held) (suc room) zero zeros = refl
    kept (x ∷ held) (suc room) (suc i) zeros = kept held room i zeros
