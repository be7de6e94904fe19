-- A text stands for exactly one thing.
use Rattle.std.proofs.Common.{◌≡◌, ℕ, suc, Bool, true, false, List, [], ◌∷◌, ◌++◌, Result, refl, sym, ap, ◌∙◌, subst, arith}
use Rattle.std.specs.List.{AllPass}
use Rattle.std.proofs.lemmas.Bool.{false≢true}
use Rattle.std.proofs.lemmas.List.{append-nil}
use Rattle.std.specs.Prelude.{Ok, Err, IfOk, IfErr, IsErrAnd, MatchResult, ◌⊎◌}
use Rattle.std.proofs.Common.{inl, inr}
use Rattle.std.specs.declared.vec.Vec.{Vec}
use Rattle.std.specs.declared.alloc.Global.{Global}
use Rattle.filter_asm.specs.declared.fault.AsmFault.{AsmFault}
use Rattle.filter_asm.specs.declared.fault.AsmFaultKind.TheVariants as kind
use Rattle.filter_asm.specs.Faults.{fault_of}
use Rattle.bpf_insn.specs.declared.insn.Insn.{Insn}
use Rattle.bpf_insn.specs.Texts.{is_blank}
use Rattle.filter_asm.specs.Token.{Tokens, TokenAt, IsToken, EndsBefore, continues, without_comment}
use Rattle.filter_asm.specs.Program.{Line, Fault, Spells, SpellsAll, line_of, text_lines, assembled, Assembles, Asm}
use Rattle.filter_asm.proofs.LineLemmas.{spells_some}

-- the list doesn't begin with an element that passes
abbrev Stops : (ℕ → Bool) → List ℕ → Type 0
Stops p [] = Unit {0}
Stops p (x ∷ xs) = p x ≡ false

passes_first : (p : ℕ → Bool) (x : ℕ) (xs : List ℕ) → AllPass p (x ∷ xs) → p x ≡ true
passes_first p x xs all = all 0 0 (omega arith)

passes_rest : (p : ℕ → Bool) (x : ℕ) (xs : List ℕ) → AllPass p (x ∷ xs) → AllPass p xs
passes_rest p x xs all = λ k d lt. all (suc k) d (omega arith)

-- there is one longest front that passes
pub one_front : (p : ℕ → Bool) (xs ys r s : List ℕ) → AllPass p xs → AllPass p ys → Stops p r → Stops p s → xs ++ r ≡ ys ++ s → (xs ≡ ys) × (r ≡ s)
one_front p [] [] r s a b c d e = (refl, e)
one_front p [] (y ∷ ys) r s a b c d e =
    let stop : Stops p (y ∷ (ys ++ s)) = subst (Stops p) e c in
    let no : p y ≡ false = stop in
    absurd (false≢true (sym no ∙ passes_first p y ys b))
one_front p (x ∷ xs) [] r s a b c d e =
    let stop : Stops p (x ∷ (xs ++ r)) = subst (Stops p) (sym e) d in
    let no : p x ≡ false = stop in
    absurd (false≢true (sym no ∙ passes_first p x xs a))
one_front p (x ∷ xs) (y ∷ ys) r s a b c d e =
    let heads : x ≡ y = cc in
    let tails : xs ++ r ≡ ys ++ s = cc in
    let rest = one_front p xs ys r s (passes_rest p x xs a) (passes_rest p y ys b) c d tails in
    let same : xs ≡ ys = rest.0 in
    (cc, rest.1)

ends_stops : (first : ℕ) (more rest : List ℕ) → EndsBefore (first ∷ more) rest → Stops (continues first) rest
ends_stops first more [] h = tt
ends_stops first more (b ∷ rest) h = h

token_stops : (token rest : List ℕ) → IsToken token → Stops is_blank (token ++ rest)
token_stops [] rest h = absurd h
token_stops (first ∷ more) rest h = h.0

same_token : (t u r s : List ℕ) → IsToken t → IsToken u → EndsBefore t r → EndsBefore u s → t ++ r ≡ u ++ s → (t ≡ u) × (r ≡ s)
same_token [] u r s a b c d e = absurd a
same_token (x ∷ xs) [] r s a b c d e = absurd b
same_token (x ∷ xs) (y ∷ ys) r s a b c d e =
    let heads : x ≡ y = cc in
    let tails : xs ++ r ≡ ys ++ s = cc in
    let others = subst (λ (c : ℕ). AllPass (continues c) ys) (sym heads) b.1 in
    let stops = subst (λ (c : ℕ). Stops (continues c) s) (sym heads) (ends_stops y ys s d) in
    let rest = one_front (continues x) xs ys r s a.1 others (ends_stops x xs r c) stops tails in
    let same : xs ≡ ys = rest.0 in
    (cc, rest.1)

pub one_token : (bytes t r u s : List ℕ) → TokenAt bytes t r → TokenAt bytes u s → (t ≡ u) × (r ≡ s)
one_token bytes t r u s a b =
    let front = one_front is_blank a.gap b.gap (t ++ r) (u ++ s) a.blank b.blank (token_stops t r a.is_token) (token_stops u s b.is_token) (sym a.spelled ∙ b.spelled) in
    same_token t u r s a.is_token b.is_token a.ends b.ends front.1

nothing_left : (token rest : List ℕ) → IsToken token → [] ≡ token ++ rest → ⊥
nothing_left [] rest a e = a
nothing_left (x ∷ xs) rest a e = cc

no_token : (bytes token rest : List ℕ) → AllPass is_blank bytes → TokenAt bytes token rest → ⊥
no_token bytes token rest blank a =
    let front = one_front is_blank bytes a.gap [] (token ++ rest) blank a.blank tt (token_stops token rest a.is_token) (append-nil bytes ∙ a.spelled) in
    nothing_left token rest a.is_token front.1

pub one_list_of_tokens : (ts us : List (List ℕ)) (bytes : List ℕ) → Tokens ts bytes → Tokens us bytes → ts ≡ us
one_list_of_tokens [] [] bytes a b = refl
one_list_of_tokens [] (u ∷ us) bytes a b = absurd (no_token bytes u b.0 a b.1)
one_list_of_tokens (t ∷ ts) [] bytes a b = absurd (no_token bytes t a.0 b a.1)
one_list_of_tokens (t ∷ ts) (u ∷ us) bytes a b =
    let same = one_token bytes t a.0 u b.0 a.1 b.1 in
    let tokens : t ≡ u = same.0 in
    let rest : ts ≡ us = one_list_of_tokens ts us a.0 a.2 (subst (Tokens us) (sym same.1) b.2) in
    cc

one_line : (bytes : List ℕ) (one other : Line) → Spells bytes one → Spells bytes other → one ≡ other
one_line bytes one other a b = a.2 ∙ ap line_of (one_list_of_tokens a.0 b.0 (without_comment bytes) a.1 b.1) ∙ sym b.2

one_list_of_lines : (parts : List (List ℕ)) (ones others : List Line) → SpellsAll parts ones → SpellsAll parts others → ones ≡ others
one_list_of_lines [] [] [] a b = refl
one_list_of_lines [] [] (o ∷ others) a b = absurd b
one_list_of_lines [] (l ∷ ones) others a b = absurd a
one_list_of_lines (p ∷ parts) [] others a b = absurd a
one_list_of_lines (p ∷ parts) (l ∷ ones) [] a b = absurd b
one_list_of_lines (p ∷ parts) (l ∷ ones) (o ∷ others) a b =
    let line : l ≡ o = one_line p l o a.0 b.0 in
    let rest : ones ≡ others = one_list_of_lines parts ones others a.1 b.1 in
    cc

pub none_stands_for_two : (text : List ℕ) (one other : Result (List Insn) Fault) → Assembles text one → Assembles text other → one ≡ other
none_stands_for_two text one other a b = a.2 ∙ ap assembled (one_list_of_lines (text_lines text) a.0 b.0 a.1 b.1) ∙ sym b.2

pub each_stands_for_some : (text : List ℕ) → (outcome : Result (List Insn) Fault) × Assembles text outcome
each_stands_for_some text = let found = spells_some (text_lines text) in (assembled found.0, (found.0, found.1, refl))

-- an answer that is what the text stands for is the program that it spells
pub only_from : (text : List ℕ) (r : Result (Vec Insn Global) AsmFault) → IfOk r (λ p. Asm text p.items) → IfErr r (λ f. (f.kind ≡ kind.NoMemory) ⊎ Assembles text (Err (fault_of f)))
    → (program : List Insn) → Asm text program → MatchResult r (λ p. p.items ≡ program) (λ f. f.kind ≡ kind.NoMemory)
only_from text (Ok p) found refused program spells = let same = none_stands_for_two text (Ok p.items) (Ok program) found spells in cc
only_from text (Err f) found refused program spells =
    elim refused [
      | inl memory ↦ memory
      | inr stands ↦ let same = none_stands_for_two text (Err (fault_of f)) (Ok program) stands spells in cc
    ]

-- and if it is a fault, that fault
pub first_from : (text : List ℕ) (r : Result (Vec Insn Global) AsmFault) → IfOk r (λ p. Asm text p.items) → IfErr r (λ f. (f.kind ≡ kind.NoMemory) ⊎ Assembles text (Err (fault_of f)))
    → (fault : Fault) → Assembles text (Err fault) → IsErrAnd r (λ f. (f.kind ≡ kind.NoMemory) ⊎ (fault_of f ≡ fault))
first_from text (Ok p) found refused fault stands = let same = none_stands_for_two text (Ok p.items) (Err fault) found stands in cc
first_from text (Err f) found refused fault stands =
    elim refused [
      | inl memory ↦ inl memory
      | inr stands' ↦ let same = none_stands_for_two text (Err (fault_of f)) (Err fault) stands' stands in inr cc
    ]
