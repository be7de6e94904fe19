-- The lines of a text, one after another.
use Rattle.std.proofs.Common.{◌≡◌, ℕ, ◌+◌, true, false, List, [], ◌∷◌, ◌++◌, length, Option, Some, None, Result, Ok, Err, append_assoc, add_assoc, add-zero, length-append, refl, sym, ap, ◌∙◌, inl, inr}
use Rattle.std.specs.Option.{option_to_list}
use Rattle.std.specs.List.{flat_map}
use Rattle.std.proofs.lemmas.List.{map-append, append-nil}
use Rattle.std.proofs.lemmas.Bool.{cases_Bool}
use Rattle.filter_asm.specs.declared.fault.AsmFaultKind.{AsmFaultKind}
use Rattle.filter_asm.specs.declared.fault.AsmFaultKind.TheVariants as kind
use Rattle.filter_asm.specs.Program.{Line, Draft, Fault, ◌>>=◌, on_line, line_of, labels_of, body_of, repeats, line_gives, drafts_from, definitions_from, definitions, instructions, instructions_in, instruction, instruction_of}
use Rattle.filter_asm.specs.Defined.{names_of, at_place}
use Rattle.filter_asm.proofs.DefineLemmas.{names_of-at_place}

pub bind_ok : {A B E : Type 0} (r : Result A E) (f : A → Result B E) (y : B) → (r >>= f) ≡ Ok y → (x : A) × (r ≡ Ok x) × (f x ≡ Ok y)
bind_ok (Ok x) f y e = (x, refl, e)
bind_ok (Err d) f y e = cc

pub on_line_ok : {A : Type 0} (line : ℕ) (r : Result A AsmFaultKind) (y : A) → on_line line r ≡ Ok y → r ≡ Ok y
on_line_ok line (Ok x) y e = cc
on_line_ok line (Err d) y e = cc

-- the first line's part and the others'
drafts_from-parts : (before : List Line) (x : Line) (xs : List Line) (ds : List Draft) → drafts_from before (x ∷ xs) ≡ Ok ds
    → (d : Option Draft) × (rest : List Draft) × (on_line (length before + 1) (line_gives before x) ≡ Ok d) × (drafts_from (before ++ x ∷ []) xs ≡ Ok rest) × (option_to_list d ++ rest ≡ ds)
drafts_from-parts before x xs ds done =
    let first = bind_ok (on_line (length before + 1) (line_gives before x)) _ ds done in
    let rest = bind_ok (drafts_from (before ++ x ∷ []) xs) _ ds first.2 in
    (first.0, rest.0, first.1, rest.1, cc)

pub drafts_from-cons : (before : List Line) (x : Line) (xs : List Line) (d : Option Draft) (rest : Result (List Draft) Fault) → on_line (length before + 1) (line_gives before x) ≡ Ok d
    → drafts_from (before ++ x ∷ []) xs ≡ rest → drafts_from before (x ∷ xs) ≡ (rest >>= λ ds. Ok (option_to_list d ++ ds))
drafts_from-cons before x xs d rest here there = rw (here, there) refl

pub drafts_from-push : (before xs : List Line) (line : Line) (ds : List Draft) (d : Option Draft) → drafts_from before xs ≡ Ok ds → line_gives (before ++ xs) line ≡ Ok d
    → drafts_from before (xs ++ line ∷ []) ≡ Ok (ds ++ option_to_list d)
drafts_from-push before [] line ds d done gives =
    let here : line_gives before line ≡ Ok d = rw append-nil at gives in
    let none : [] ≡ ds = cc in
    rw (here, ← none) (ap (λ l. Ok l) (append-nil (option_to_list d)))
drafts_from-push before (x ∷ xs) line ds d done gives =
    let p = drafts_from-parts before x xs ds done in
    let further = drafts_from-push (before ++ x ∷ []) xs line p.1 d p.3 (rw (append_assoc before (x ∷ []) xs) gives) in
    drafts_from-cons before x (xs ++ line ∷ []) p.0 (Ok (p.1 ++ option_to_list d)) p.2 further
    ∙ ap (λ l. Ok l) (sym (append_assoc (option_to_list p.0) p.1 (option_to_list d)) ∙ ap (λ l. l ++ option_to_list d) p.4)

pub drafts_from-stops : (before xs : List Line) (line : Line) (more : List Line) (ds : List Draft) (k : AsmFaultKind) → drafts_from before xs ≡ Ok ds → line_gives (before ++ xs) line ≡ Err k
    → drafts_from before (xs ++ line ∷ more) ≡ Err (record { line = length (before ++ xs) + 1; kind = k })
drafts_from-stops before [] line more ds k done gives =
    let here : line_gives before line ≡ Err k = rw append-nil at gives in
    rw (here, append-nil) refl
drafts_from-stops before (x ∷ xs) line more ds k done gives =
    let p = drafts_from-parts before x xs ds done in
    let further = drafts_from-stops (before ++ x ∷ []) xs line more p.1 k p.3 (rw (append_assoc before (x ∷ []) xs) gives) in
    drafts_from-cons before x (xs ++ line ∷ more) p.0 _ p.2 further
    ∙ ap (λ l. Err (record { line = length l + 1; kind = k })) (append_assoc before (x ∷ []) xs)

pub definitions_from-push : (place : ℕ) (xs : List Line) (line : Line) → definitions_from place (xs ++ line ∷ []) ≡ definitions_from place xs ++ at_place (place + instructions xs) line.labels
definitions_from-push place [] line = rw (append-nil, add-zero) refl
definitions_from-push place (x ∷ xs) line =
    rw (definitions_from-push (place + instructions_in x.body) xs line, add_assoc, append_assoc) refl

pub names_of-definitions : (place : ℕ) (xs : List Line) → names_of (definitions_from place xs) ≡ flat_map (λ l. l.labels) xs
names_of-definitions place [] = refl
names_of-definitions place (x ∷ xs) =
    map-append (λ d. d.0) (at_place place x.labels) (definitions_from (place + instructions_in x.body) xs)
    ∙ (rw (names_of-at_place [] place x.labels, names_of-definitions (place + instructions_in x.body) xs) refl)

instruction_of-one : (line count : ℕ) (body : List (List ℕ)) (d : Option Draft) → instruction_of line count body ≡ Ok d → length (option_to_list d) ≡ instructions_in body
instruction_of-one line count [] d e = let none : None ≡ d = cc in rw (← none) refl
instruction_of-one line count (word ∷ operands) d e =
    let p = bind_ok (instruction line count word operands) _ d e in
    let some : Some p.0 ≡ d = cc in
    ap (λ o. length (option_to_list o)) (sym some)

line_gives-one : (before : List Line) (x : Line) (d : Option Draft) → line_gives before x ≡ Ok d → length (option_to_list d) ≡ instructions_in x.body
line_gives-one before x d gives =
    elim (cases_Bool (repeats (flat_map (λ l. l.labels) before) x.labels)) [
      | inl twice ↦ let stop = rw twice at gives in cc
      | inr new ↦ instruction_of-one (length before + 1) (instructions before) x.body d (rw new at gives)
    ]

pub length-drafts_from : (before xs : List Line) (ds : List Draft) → drafts_from before xs ≡ Ok ds → length ds ≡ instructions xs
length-drafts_from before [] ds done = let none : [] ≡ ds = cc in rw (← none) refl
length-drafts_from before (x ∷ xs) ds done =
    let p = drafts_from-parts before x xs ds done in
    ap length (sym p.4) ∙ length-append (option_to_list p.0) p.1
    ∙ (rw (line_gives-one before x p.0 (on_line_ok _ _ _ p.2), length-drafts_from (before ++ x ∷ []) xs p.1 p.3) refl)

-- a line whose labels are new gives what its body does
pub line_gives-new : (lines : List Line) (tokens body : List (List ℕ)) → body ≡ body_of tokens → repeats (names_of (definitions lines)) (labels_of tokens) ≡ false
    → line_gives lines (line_of tokens) ≡ instruction_of (length lines + 1) (instructions lines) body
line_gives-new lines tokens body body_is new =
    let same = rw (names_of-definitions 0 lines) at new in
    rw (same, body_is) refl

pub line_gives-twice : (lines : List Line) (tokens : List (List ℕ)) → repeats (names_of (definitions lines)) (labels_of tokens) ≡ true → line_gives lines (line_of tokens) ≡ Err kind.TwiceLabel
line_gives-twice lines tokens twice =
    let same = rw (names_of-definitions 0 lines) at twice in
    rw same refl
