-- One token more.
use Rattle.std.proofs.Common.{◌≡◌, ℕ, ◌+◌, ◌<◌, ◌≤◌, List, [], ◌∷◌, ◌++◌, length, drop, length-append, length-drop, append_assoc, ◌⊎◌, sym, arith}
use Rattle.std.specs.Prelude.{Ok, Err}
use Rattle.std.specs.List.{prefix_len}
use Rattle.std.proofs.lemmas.List.{drop-drop, append-nil}
use Rattle.expr_words.specs.declared.fault.WordFault.{WordFault}
use Rattle.expr_words.specs.declared.fault.WordFaultKind.TheVariants.{TooLong}
use Rattle.expr_words.specs.declared.token.Token.{Token}
use Rattle.expr_words.specs.declared.word.Word.{Word}
use Rattle.expr_words.specs.Bytes.{is_blank}
use Rattle.expr_words.specs.Scan.{Begins}
use Rattle.expr_words.specs.Tokens.{End, Whole, Fault, Reads, Spells, Refuses, unblanked}

-- what is read from a place on completes the tokens so far
abbrev pub Onward : List ℕ → List Token → ℕ → Type 0
Onward text done place = (more : List Token) (end : End) → Reads (length done) (place + 1) more (drop place text) end → Reads 0 1 (done ++ more) text end

-- what stands after the blanks at a place
pub unblanked_at : (text : List ℕ) (place blanks : ℕ) → blanks ≡ prefix_len is_blank (drop place text) → unblanked (drop place text) ≡ drop (place + blanks) text
unblanked_at text place blanks is = rw (sym is) (drop-drop blanks place text)

pub one_token_more : (text : List ℕ) (done : List Token) (place blanks width : ℕ) (word : Word) → Onward text done place → blanks ≡ prefix_len is_blank (drop place text)
    → place + blanks < length text → Begins (drop (place + blanks) text) width (Ok word)
    → Onward text (done ++ record { word = word; column = place + blanks + 1; width = width } ∷ []) (place + blanks + width)
one_token_more text done place blanks width word onward is within begins = λ more end reads.
    let t : Token = record { word = word; column = place + blanks + 1; width = width } in
    let here : unblanked (drop place text) ≡ drop (place + blanks) text = unblanked_at text place blanks is in
    let some : 0 < length (drop (place + blanks) text) = omega (arith, length-drop (place + blanks) text) in
    let column : place + blanks + 1 ≡ place + 1 + prefix_len is_blank (drop place text) = omega arith in
    let after : drop width (drop (place + blanks) text) ≡ drop (place + blanks + width) text = drop-drop width (place + blanks) text in
    let count : length (done ++ t ∷ []) ≡ length done + 1 = length-append done (t ∷ []) in
    let next : place + blanks + width + 1 ≡ place + blanks + 1 + width = omega arith in
    let rest = rw (count, next) at reads in
    rw append_assoc (onward (t ∷ more) end (column, rw here some, rw here begins, rw (here, after) rest))

-- where nothing but blanks is left, the tokens are those of the text
pub whole_text : (text : List ℕ) (done : List Token) (place blanks : ℕ) → Onward text done place → blanks ≡ prefix_len is_blank (drop place text)
    → place + blanks ≡ length text → Spells text done
whole_text text done place blanks onward is end =
    let none : length (drop (place + blanks) text) ≡ 0 = omega (arith, length-drop (place + blanks) text) in
    let last : length (unblanked (drop place text)) ≡ 0 = rw (unblanked_at text place blanks is) none in
    rw append-nil at (onward [] Whole last)

-- a fault after some tokens
pub refused : (text : List ℕ) (done : List Token) (place blanks : ℕ) (fault : WordFault) → Onward text done place → blanks ≡ prefix_len is_blank (drop place text)
    → place + blanks < length text → length done ≤ 8192 → fault.column ≡ place + blanks + 1
    → (Begins (drop (place + blanks) text) fault.width (Err fault.kind)
    ⊎ ((length done ≡ 8192) × (fault.kind ≡ TooLong) × ((w : Word) × Begins (drop (place + blanks) text) fault.width (Ok w))))
    → Refuses text fault
refused text done place blanks fault onward is within few column why =
    let here : unblanked (drop place text) ≡ drop (place + blanks) text = unblanked_at text place blanks is in
    let some : 0 < length (drop (place + blanks) text) = omega (arith, length-drop (place + blanks) text) in
    let column_is : fault.column ≡ place + 1 + prefix_len is_blank (drop place text) = omega arith in
    (done, few, rw append-nil at (onward [] (Fault fault) (column_is, rw here some, rw here why)))
