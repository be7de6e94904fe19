-- Lines read one after another.
use Rattle.std.proofs.Common.{◌≡◌, ℕ, ◌+◌, ◌*◌, ◌/◌, ◌%◌, ◌^◌, ◌<◌, List, [], ◌∷◌, length, slice_index, take, drop, refl, ap, sym, ◌∙◌, arith, add-zero}
use Rattle.std.specs.Int.{from_le_bytes, to_le_bytes, w64}
use Rattle.std.proofs.lemmas.Nat.{from_le_bytes-to_le_bytes_8}
use Rattle.ump_ring.specs.Lines.{word_at, head_word, line_at, length_of, number_of, payload}
use Rattle.ump_ring.proofs.Windows.{window, window-shift, bytes_at-window}
use Rattle.ump_ring.proofs.Extents.{cons-both}

-- a line of eight words
abbrev pub IsLine : List ℕ → Type 0
IsLine line = (length line ≡ 8) × ((k : ℕ) → slice_index line k < 2 ^ 64)

word-is : (w : ℕ) (bytes : List ℕ) (at i : ℕ) → w < 2 ^ 64 → to_le_bytes w64 w ≡ window bytes at i 8 → w ≡ word_at bytes (at + i)
word-is w bytes at i fits is =
    sym (from_le_bytes-to_le_bytes_8 w fits)
    ∙ ap (from_le_bytes w64) (is ∙ ap (λ n. window bytes at n 8) (sym (add-zero i)) ∙ sym (window-shift bytes at i 0 8) ∙ sym (bytes_at-window bytes (at + i)))

word-first_is : (w : ℕ) (bytes : List ℕ) (at : ℕ) → w < 2 ^ 64 → to_le_bytes w64 w ≡ window bytes at 0 8 → w ≡ word_at bytes at
word-first_is w bytes at fits is = word-is w bytes at 0 fits is ∙ ap (λ n. word_at bytes n) (add-zero at)

head-is : (x number stated : ℕ) → x % 4294967296 ≡ number → x / 4294967296 ≡ stated → x ≡ head_word stated number
head-is x number stated n s = omega arith

-- a line that holds the bytes of its place is the line of that place
pub line_at-from : (line : List ℕ) (bytes : List ℕ) (number place stated : ℕ) → length line ≡ 8 → ((k : ℕ) → slice_index line k < 2 ^ 64)
    → number_of line ≡ number → length_of line ≡ stated → payload line ≡ window bytes (56 * place) 0 56
    → line ≡ head_word stated number ∷ drop 1 (line_at 0 bytes number place)
line_at-from (x ∷ a ∷ b ∷ c ∷ d ∷ e ∷ f ∷ g ∷ []) bytes number place stated long fit n s p =
    let at : ℕ = 56 * place in
    let w : ℕ → ℕ = λ i. word_at bytes (at + i) in
    cons-both x (head_word stated number) (a ∷ b ∷ c ∷ d ∷ e ∷ f ∷ g ∷ []) (word_at bytes at ∷ w 8 ∷ w 16 ∷ w 24 ∷ w 32 ∷ w 40 ∷ w 48 ∷ []) (head-is x number stated n s)
    (cons-both a (word_at bytes at) (b ∷ c ∷ d ∷ e ∷ f ∷ g ∷ []) (w 8 ∷ w 16 ∷ w 24 ∷ w 32 ∷ w 40 ∷ w 48 ∷ []) (word-first_is a bytes at (fit 1) (ap (λ l. take 8 l) p))
    (cons-both b (w 8) (c ∷ d ∷ e ∷ f ∷ g ∷ []) (w 16 ∷ w 24 ∷ w 32 ∷ w 40 ∷ w 48 ∷ []) (word-is b bytes at 8 (fit 2) (ap (λ l. take 8 (drop 8 l)) p))
    (cons-both c (w 16) (d ∷ e ∷ f ∷ g ∷ []) (w 24 ∷ w 32 ∷ w 40 ∷ w 48 ∷ []) (word-is c bytes at 16 (fit 3) (ap (λ l. take 8 (drop 16 l)) p))
    (cons-both d (w 24) (e ∷ f ∷ g ∷ []) (w 32 ∷ w 40 ∷ w 48 ∷ []) (word-is d bytes at 24 (fit 4) (ap (λ l. take 8 (drop 24 l)) p))
    (cons-both e (w 32) (f ∷ g ∷ []) (w 40 ∷ w 48 ∷ []) (word-is e bytes at 32 (fit 5) (ap (λ l. take 8 (drop 32 l)) p))
    (cons-both f (w 40) (g ∷ []) (w 48 ∷ []) (word-is f bytes at 40 (fit 6) (ap (λ l. take 8 (drop 40 l)) p))
    (cons-both g (w 48) [] [] (word-is g bytes at 48 (fit 7) (ap (λ l. take 8 (drop 48 l)) p)) refl)))))))
line_at-from line bytes number place stated long fit n s p = absurd (omega arith)
