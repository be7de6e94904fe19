-- The words of a line, as lists of bytes.
use denote.Ref.{Bor}
use Rattle.std.specs.Prelude.{ℕ, List, [], map, slice_get, unwrap_or}

-- the bytes of words that are borrowed
abbrev pub texts : List (Bor (List ℕ)) → List (List ℕ)
texts words = map (λ w. w.now) words

-- the word at a place, or no bytes where there is none
abbrev pub word_at : List (List ℕ) → ℕ → List ℕ
word_at words place = unwrap_or (slice_get words place) []
