-- The columns of tokens and of faults lie in the text.
use Rattle.std.proofs.Common.{◌≡◌, ℕ, zero, suc, ◌+◌, ◌<◌, ◌≤◌, List, [], ◌∷◌, length, drop, get_or, arith, length-drop}
use Rattle.std.specs.List.{prefix_len}
use Rattle.expr_words.specs.declared.fault.WordFault.{WordFault}
use Rattle.expr_words.specs.declared.token.Token.{Token}
use Rattle.expr_words.specs.Bytes.{is_blank}
use Rattle.expr_words.specs.Tokens.{Whole, Fault, Reads, Spells, Refuses, unblanked}
use Rattle.expr_parse.specs.ParserViews.{LieBefore}

pub columns : (ts : List Token) (count column : ℕ) (bytes : List ℕ) (end : ℕ) → Reads count column ts bytes Whole → 0 < column → column + length bytes ≤ end → LieBefore end ts
columns [] count column bytes end r low high = tt
columns (t ∷ []) count column bytes end r low high =
    let is = r.0 in let some = r.1 in
    (omega arith, omega (arith, length-drop (prefix_len is_blank bytes) bytes), tt)
columns (t ∷ (u ∷ us)) count column bytes end r low high =
    let is = r.0 in let some = r.1 in let more = r.3.1 in
    let left = drop t.width (unblanked bytes) in (
      omega arith,
      omega (arith, length-drop (prefix_len is_blank bytes) bytes),
      columns (u ∷ us) (count + 1) (t.column + t.width) left end r.3 (omega arith)
          (omega (arith, length-drop (prefix_len is_blank bytes) bytes, length-drop t.width (unblanked bytes), length-drop (prefix_len is_blank left) left)),
    )

pub spelled_before : (text : List ℕ) (ts : List Token) → Spells text ts → LieBefore (length text + 1) ts
spelled_before text ts s = columns ts 0 1 text (length text + 1) s (omega arith) (omega arith)

fault_column : (ts : List Token) (count column : ℕ) (bytes : List ℕ) (f : WordFault) (end : ℕ) → Reads count column ts bytes (Fault f) → 0 < column → column + length bytes ≤ end → (0 < f.column) × (f.column < end)
fault_column [] count column bytes f end r low high =
    let is = r.0 in let some = r.1 in
    (omega arith, omega (arith, length-drop (prefix_len is_blank bytes) bytes))
fault_column (t ∷ []) count column bytes f end r low high =
    let is = r.0 in let some = r.1 in let more = r.3.1 in
    let left = drop t.width (unblanked bytes) in
    fault_column [] (count + 1) (t.column + t.width) left f end r.3 (omega arith)
    (omega (arith, length-drop (prefix_len is_blank bytes) bytes, length-drop t.width (unblanked bytes), length-drop (prefix_len is_blank left) left))
fault_column (t ∷ (u ∷ us)) count column bytes f end r low high =
    let is = r.0 in let some = r.1 in let more = r.3.1 in
    let left = drop t.width (unblanked bytes) in
    fault_column (u ∷ us) (count + 1) (t.column + t.width) left f end r.3 (omega arith)
    (omega (arith, length-drop (prefix_len is_blank bytes) bytes, length-drop t.width (unblanked bytes), length-drop (prefix_len is_blank left) left))

pub refused_before : (text : List ℕ) (f : WordFault) → Refuses text f → (0 < f.column) × (f.column < length text + 1)
refused_before text f r = fault_column r.0 0 1 text f (length text + 1) r.2 (omega arith) (omega arith)

pub lies_before : (end : ℕ) (ts : List Token) (k : ℕ) (t : Token) → LieBefore end ts → k < length ts → t ≡ get_or ts k t → (0 < t.column) × (t.column < end)
lies_before end [] k t h below e = absurd (omega arith)
lies_before end (u ∷ us) zero t h below e = rw e (h.0, h.1)
lies_before end (u ∷ us) (suc k) t h below e = lies_before end us k t h.2 (omega arith) e
