-- A stretch of a byte string, with zeros past the end.
use Rattle.std.proofs.Common.{◌≡◌, ℕ, zero, suc, ◌+◌, ◌*◌, ◌<◌, ◌≤◌, List, [], ◌∷◌, ◌++◌, length, get_or, slice_index, take, refl, ap, sym, ◌∙◌, arith, add-zero, flat_map}
use Rattle.std.specs.Int.{to_le_bytes, w64}
use Rattle.std.proofs.lemmas.Nat.{le_bytes_8}
use Rattle.std.proofs.lemmas.Grind.{same_number_lists, flat_map-append}
use Rattle.std.proofs.lemmas.List.{get_or-take, length-take-le}
use Rattle.ump_ring.specs.Lines.{bytes_at, word_at, line_at, lines_below, payload, payloads, number_after}

-- as many bytes as `count` from `at + j` on
abbrev pub window : List ℕ → ℕ → ℕ → ℕ → List ℕ
window bytes at j zero = []
window bytes at j (suc count) = slice_index bytes (at + j) ∷ window bytes at (j + 1) count

pub length-window : (bytes : List ℕ) (at j count : ℕ) → length (window bytes at j count) ≡ count
length-window bytes at j zero = refl
length-window bytes at j (suc count) = omega (arith, length-window bytes at (j + 1) count)

pub window-shift : (bytes : List ℕ) (at i j count : ℕ) → window bytes (at + i) j count ≡ window bytes at (i + j) count
window-shift bytes at i j zero = refl
window-shift bytes at i j (suc count) =
    let e : at + i + j ≡ at + (i + j) = omega arith in
    let f : i + (j + 1) ≡ i + j + 1 = omega arith in
    ap (λ k. slice_index bytes k ∷ window bytes (at + i) (j + 1) count) e
    ∙ ap (λ t. slice_index bytes (at + (i + j)) ∷ t) (window-shift bytes at i (j + 1) count ∙ ap (λ k. window bytes at k count) f)

pub window-append : (bytes : List ℕ) (at j k l : ℕ) → window bytes at j k ++ window bytes at (j + k) l ≡ window bytes at j (k + l)
window-append bytes at j zero l = ap (λ n. window bytes at n l) (add-zero j) ∙ let e : l ≡ 0 + l = omega arith in ap (λ n. window bytes at j n) e
window-append bytes at j (suc k) l =
    let e : j + suc k ≡ j + 1 + k = omega arith in
    let f : suc (k + l) ≡ suc k + l = omega arith in
    ap (λ t. slice_index bytes (at + j) ∷ t) (ap (λ n. window bytes at (j + 1) k ++ window bytes at n l) e ∙ window-append bytes at (j + 1) k l)
    ∙ ap (λ n. window bytes at j n) f

pub get_or-window : (bytes : List ℕ) (at j count i : ℕ) → i < count → get_or (window bytes at j count) i 0 ≡ get_or bytes (at + j + i) 0
get_or-window bytes at j zero i h = absurd (omega arith)
get_or-window bytes at j (suc count) zero h = ap (λ k. get_or bytes k 0) (sym (add-zero (at + j)))
get_or-window bytes at j (suc count) (suc i) h =
    let h' : i < count = omega arith in
    let e : at + (j + 1) + i ≡ at + j + suc i = omega arith in
    get_or-window bytes at (j + 1) count i h' ∙ ap (λ k. get_or bytes k 0) e

-- the string itself, cut out of a window that holds it
pub take-window : (bytes : List ℕ) (count : ℕ) → length bytes ≤ count → take (length bytes) (window bytes 0 0 count) ≡ bytes
take-window bytes count h =
    let long : length (take (length bytes) (window bytes 0 0 count)) ≡ length bytes =
    length-take-le (length bytes) (window bytes 0 0 count) (omega (arith, length-window bytes 0 0 count)) in
    same_number_lists (take (length bytes) (window bytes 0 0 count)) bytes long
    (λ k lt.
    let below : k < length bytes = omega arith in
    let within : k < count = omega arith in
    let e : 0 + 0 + k ≡ k = omega arith in
    get_or-take (length bytes) (window bytes 0 0 count) k 0 below ∙ get_or-window bytes 0 0 count k within ∙ ap (λ n. get_or bytes n 0) e)

-- the eight bytes of a word
pub bytes_at-window : (bytes : List ℕ) (at : ℕ) → bytes_at bytes at ≡ window bytes at 0 8
bytes_at-window bytes at = ap (λ k. slice_index bytes k ∷ window bytes at 1 7) (sym (add-zero at))

pub word-bytes : (bytes : List ℕ) (at : ℕ) → ((k : ℕ) → slice_index bytes k < 256) → to_le_bytes w64 (word_at bytes at) ≡ window bytes at 0 8
word-bytes bytes at fit =
    le_bytes_8 (bytes_at bytes at) (word_at bytes at) refl
    (λ i. below i)
    refl
    ∙ bytes_at-window bytes at
  where
    below : (i : ℕ) → get_or (bytes_at bytes at) i 0 < 256
    below zero = fit at
    below (suc zero) = fit (at + 1)
    below (suc (suc zero)) = fit (at + 2)
    below (suc (suc (suc zero))) = fit (at + 3)
    below (suc (suc (suc (suc zero)))) = fit (at + 4)
    below (suc (suc (suc (suc (suc zero))))) = fit (at + 5)
    below (suc (suc (suc (suc (suc (suc zero)))))) = fit (at + 6)
    below (suc (suc (suc (suc (suc (suc (suc zero))))))) = fit (at + 7)
    below (suc (suc (suc (suc (suc (suc (suc (suc i)))))))) = omega arith

pub word-bytes_from : (bytes : List ℕ) (at i : ℕ) → ((k : ℕ) → slice_index bytes k < 256) → to_le_bytes w64 (word_at bytes (at + i)) ≡ window bytes at i 8
word-bytes_from bytes at i fit =
    word-bytes bytes (at + i) fit ∙ window-shift bytes at i 0 8 ∙ ap (λ n. window bytes at n 8) (add-zero i)

-- the bytes of one more word
word-first : (w : ℕ) (ws : List ℕ) (b c : List ℕ) → to_le_bytes w64 w ≡ b → flat_map (to_le_bytes w64) ws ≡ c → flat_map (to_le_bytes w64) (w ∷ ws) ≡ b ++ c
word-first w ws b c e f = ap (λ t. t ++ flat_map (to_le_bytes w64) ws) e ∙ ap (λ t. b ++ t) f

-- a line holds the 56 bytes from its place on
pub payload-line_at : (size : ℕ) (bytes : List ℕ) (number place : ℕ) → ((k : ℕ) → slice_index bytes k < 256)
    → payload (line_at size bytes number place) ≡ window bytes (56 * place) 0 56
payload-line_at size bytes number place fit =
    let at : ℕ = 56 * place in
    let w : ℕ → ℕ = λ i. word_at bytes (at + i) in
    word-first (word_at bytes at) (w 8 ∷ w 16 ∷ w 24 ∷ w 32 ∷ w 40 ∷ w 48 ∷ []) (window bytes at 0 8) (window bytes at 8 48) (word-bytes bytes at fit)
    (word-first (w 8) (w 16 ∷ w 24 ∷ w 32 ∷ w 40 ∷ w 48 ∷ []) (window bytes at 8 8) (window bytes at 16 40) (word-bytes_from bytes at 8 fit)
    (word-first (w 16) (w 24 ∷ w 32 ∷ w 40 ∷ w 48 ∷ []) (window bytes at 16 8) (window bytes at 24 32) (word-bytes_from bytes at 16 fit)
    (word-first (w 24) (w 32 ∷ w 40 ∷ w 48 ∷ []) (window bytes at 24 8) (window bytes at 32 24) (word-bytes_from bytes at 24 fit)
    (word-first (w 32) (w 40 ∷ w 48 ∷ []) (window bytes at 32 8) (window bytes at 40 16) (word-bytes_from bytes at 32 fit)
    (word-first (w 40) (w 48 ∷ []) (window bytes at 40 8) (window bytes at 48 8) (word-bytes_from bytes at 40 fit)
    (word-first (w 48) [] (window bytes at 48 8) [] (word-bytes_from bytes at 48 fit) refl))))))

pub payloads-lines_below : (size : ℕ) (bytes : List ℕ) (before count : ℕ) → ((k : ℕ) → slice_index bytes k < 256)
    → payloads (lines_below size bytes before count) ≡ window bytes 0 0 (56 * count)
payloads-lines_below size bytes before zero fit = refl
payloads-lines_below size bytes before (suc count) fit =
    let line = line_at size bytes (number_after (before + count)) count in
    let e : 0 + 56 * count ≡ 56 * count = omega arith in
    let f : 56 * count + 0 ≡ 0 + 56 * count = omega arith in
    let one : payloads (line ∷ []) ≡ window bytes 0 (0 + 56 * count) 56 =
    simp (payload-line_at size bytes (number_after (before + count)) count fit) (sym (ap (λ n. window bytes n 0 56) e) ∙ window-shift bytes 0 (56 * count) 0 56 ∙ ap (λ n. window bytes 0 n 56) f) in
    let g : 56 * count + 56 ≡ 56 * suc count = omega arith in
    flat_map-append payload (lines_below size bytes before count) (line ∷ [])
    ∙ ap (λ t. t ++ payloads (line ∷ [])) (payloads-lines_below size bytes before count fit)
    ∙ ap (λ t. window bytes 0 0 (56 * count) ++ t) one
    ∙ window-append bytes 0 0 (56 * count) 56
    ∙ ap (λ n. window bytes 0 0 n) g
