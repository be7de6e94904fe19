-- What lines hold are bytes.
use Rattle.std.proofs.Common.{ℕ, zero, suc, ◌<◌, Bool, true, false, if◌then◌else◌, List, [], ◌∷◌, ◌++◌, get_or, take, drop, arith, flat_map}
use Rattle.std.specs.Int.{to_le_bytes, w64}
use Rattle.ump_ring.specs.Lines.{payload}
use Rattle.ump_ring.specs.Reading.{bytes_with, is_open, room_for}

abbrev pub AreBytes : List ℕ → Type 0
AreBytes xs = (i : ℕ) → get_or xs i 0 < 256

fit-cons : (x : ℕ) (xs : List ℕ) → x < 256 → AreBytes xs → AreBytes (x ∷ xs)
fit-cons x xs h t zero = h
fit-cons x xs h t (suc i) = t i

fit-nil : AreBytes []
fit-nil i = omega arith

fit-append : (xs ys : List ℕ) → AreBytes xs → AreBytes ys → AreBytes (xs ++ ys)
fit-append [] ys h t = t
fit-append (x ∷ xs) ys h t = fit-cons x (xs ++ ys) (h 0) (fit-append xs ys (λ i. h (suc i)) t)

fit-take : (n : ℕ) (xs : List ℕ) → AreBytes xs → AreBytes (take n xs)
fit-take zero xs h = fit-nil
fit-take (suc n) [] h = fit-nil
fit-take (suc n) (x ∷ xs) h = fit-cons x (take n xs) (h 0) (fit-take n xs (λ i. h (suc i)))

fit-word : (w : ℕ) → AreBytes (to_le_bytes w64 w)
fit-word w zero = omega arith
fit-word w (suc zero) = omega arith
fit-word w (suc (suc zero)) = omega arith
fit-word w (suc (suc (suc zero))) = omega arith
fit-word w (suc (suc (suc (suc zero)))) = omega arith
fit-word w (suc (suc (suc (suc (suc zero))))) = omega arith
fit-word w (suc (suc (suc (suc (suc (suc zero)))))) = omega arith
fit-word w (suc (suc (suc (suc (suc (suc (suc zero))))))) = omega arith
fit-word w (suc (suc (suc (suc (suc (suc (suc (suc i)))))))) = omega arith

fit-words : (ws : List ℕ) → AreBytes (flat_map (to_le_bytes w64) ws)
fit-words [] = fit-nil
fit-words (w ∷ ws) = fit-append (to_le_bytes w64 w) (flat_map (to_le_bytes w64) ws) (fit-word w) (fit-words ws)

pub fit-bytes_with : (size : ℕ) (bytes line : List ℕ) → AreBytes bytes → AreBytes (bytes_with size bytes line)
fit-bytes_with size bytes line h = fit-append (if is_open size bytes then bytes else []) (take (room_for size bytes line) (payload line)) (at (is_open size bytes)) (fit-take (room_for size bytes line) (payload line) (fit-words (drop 1 line)))
  where
    at : (b : Bool) → AreBytes (if b then bytes else [])
    at true = h
    at false = fit-nil
