-- The tokens of a text: in order, with blanks round them.
use Rattle.std.specs.Prelude.{◌≡◌, ℕ, ◌+◌, ◌<◌, ◌≤◌, List, [], ◌∷◌, length, drop, Ok, Err, ◌⊎◌}
use Rattle.std.specs.List.{prefix_len}
use Rattle.expr_words.specs.declared.fault.WordFault.{WordFault}
use Rattle.expr_words.specs.declared.fault.WordFaultKind.TheVariants.{TooLong}
use Rattle.expr_words.specs.declared.token.Token.{Token}
use Rattle.expr_words.specs.declared.token.TheConstants.{MAX_TOKENS}
use Rattle.expr_words.specs.declared.word.Word.{Word}
use Rattle.expr_words.specs.Bytes.{is_blank}
use Rattle.expr_words.specs.Scan.{Begins}

-- what stands after the blanks
abbrev pub unblanked : List ℕ → List ℕ
unblanked bytes = drop (prefix_len is_blank bytes) bytes

-- how the tokens end: with the text, or at a fault
pub data End : Type 0 where
  Whole : End
  Fault : WordFault → End

-- after so many tokens no token begins where the fault is, or it is one too many
abbrev pub EndsSo : ℕ → ℕ → List ℕ → End → Type 0
EndsSo count column bytes Whole = length (unblanked bytes) ≡ 0
EndsSo count column bytes (Fault f) =
    (f.column ≡ column + prefix_len is_blank bytes) × (0 < length (unblanked bytes))
    × (Begins (unblanked bytes) f.width (Err f.kind)
    ⊎ ((count ≡ MAX_TOKENS) × (f.kind ≡ TooLong) × ((w : Word) × Begins (unblanked bytes) f.width (Ok w))))

-- after so many tokens, from a column on, the bytes are these tokens and end so
abbrev pub Reads : ℕ → ℕ → List Token → List ℕ → End → Type 0
Reads count column [] bytes end = EndsSo count column bytes end
Reads count column (t ∷ ts) bytes end =
    (t.column ≡ column + prefix_len is_blank bytes) × (0 < length (unblanked bytes))
    × Begins (unblanked bytes) t.width (Ok t.word)
    × Reads (count + 1) (t.column + t.width) ts (drop t.width (unblanked bytes)) end

-- the text is these tokens
abbrev pub Spells : List ℕ → List Token → Type 0
Spells text tokens = Reads 0 1 tokens text Whole

-- the text has a fault after some tokens
abbrev pub Refuses : List ℕ → WordFault → Type 0
Refuses text fault = (tokens : List Token) × (length tokens ≤ MAX_TOKENS) × Reads 0 1 tokens text (Fault fault)
