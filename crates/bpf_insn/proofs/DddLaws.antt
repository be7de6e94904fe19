-- A text has one list of pieces, and they spell one program, or have one first fault.
use Rattle.std.proofs.Common.{◌≡◌, ◌≢◌, ℕ, ◌+◌, ◌-◌, ◌≤◌, ◌<◌, List, [], ◌∷◌, ◌++◌, length, get_or, arith, refl, ap, sym, ◌∙◌, inl, inr, ◌⊎◌, length-append, Result, Ok, Err, IfOk, IfErr, IsErrAnd, MatchResult, Some}
use Rattle.std.specs.List.{AllZip}
use Rattle.std.proofs.lemmas.Bool.{cases_lt}
use Rattle.std.proofs.lemmas.List.{get_or-append_right, get_or_append_left, get_or_at}
use Rattle.bpf_insn.specs.declared.ddd.TextFault.{TextFault}
use Rattle.bpf_insn.specs.declared.ddd.TextFault.TheVariants.{BadNumber, CountMismatch, TooLong, NoMemory}
use Rattle.bpf_insn.specs.declared.insn.Insn.{Insn}
use Rattle.bpf_insn.specs.Texts.{number_of}
use Rattle.bpf_insn.specs.Ddd.{Ddd, Faults, HasFault, IsTrimmed, IsFirstBad, Counts, SpellsCount, SpellsInsn}
use Rattle.bpf_insn.proofs.DddLemmas.{fronts_same, as_long, spelled_at}

-- a last piece that isn't empty stands among the pieces of each reading
last_within : (cut ps qs front : List (List (List ℕ))) (last : List (List ℕ)) → IsTrimmed cut ps → IsTrimmed cut qs → qs ≡ front ++ last ∷ [] → last ≢ [] → length qs ≤ length ps
last_within cut ps qs front last p q ends full =
    elim (cases_lt (length ps) (length qs)) [
      | inr fits ↦ fits
      | inl more ↦
          let long : length qs ≡ length front + 1 = omega (arith, ap length ends, length-append front (last ∷ [])) in
          let size : length ps + length p.gap ≡ length qs + length q.gap = omega (arith, ap length p.whole, ap length q.whole, length-append ps p.gap, length-append qs q.gap) in
          let there : get_or cut (length front) last ≡ last = ap (λ xs. get_or xs (length front) last) q.whole
          ∙ get_or_append_left qs q.gap last (length front) (omega arith) ∙ ap (λ xs. get_or xs (length front) last) ends ∙ get_or_at front last [] last (length front) refl in
          let here : get_or cut (length front) last ≡ get_or p.gap (length front - length ps) last = ap (λ xs. get_or xs (length front) last) p.whole
          ∙ get_or-append_right ps p.gap (length ps) (length front) last refl (omega arith) in
          absurd (full (sym there ∙ here ∙ p.empty (length front - length ps) last (omega arith)))
    ]

not_longer : (cut ps qs : List (List (List ℕ))) → IsTrimmed cut ps → IsTrimmed cut qs → length qs ≤ length ps
not_longer cut ps qs p q = elim q.full [
  | inl none ↦ omega (arith, ap length none)
  | inr ends ↦ last_within cut ps qs ends.0 ends.1 p q ends.2 ends.3
]

-- a text has one list of pieces
pub pieces_same : (cut ps qs : List (List (List ℕ))) → IsTrimmed cut ps → IsTrimmed cut qs → ps ≡ qs
pieces_same cut ps qs p q =
    let some : length qs ≤ length ps = not_longer cut ps qs p q in
    let others : length ps ≤ length qs = not_longer cut qs ps q p in
    fronts_same ps qs p.gap q.gap (sym p.whole ∙ q.whole) (omega arith)

-- a word writes one number
value_same : (v w : List ℕ) (n m : ℕ) → v ≡ w → number_of v ≡ Some n → number_of w ≡ Some m → n ≡ m
value_same v w n m same a b = let found : Some n ≡ Some m = sym a ∙ ap number_of same ∙ b in cc

-- a piece writes one count
count_same : (words : List (List ℕ)) (n m : ℕ) → SpellsCount words n → SpellsCount words m → n ≡ m
count_same words n m a b =
    let one : a.word ∷ [] ≡ b.word ∷ [] = sym a.alone ∙ b.alone in
    value_same a.word b.word n m (cc) a.value b.value

counts_same : (pieces : List (List (List ℕ))) (n m : ℕ) → Counts pieces n → Counts pieces m → n ≡ m
counts_same [] n m a b = absurd a
counts_same (first ∷ rest) n m a b = count_same first n m a b

insn_is : (code jt jf k code' jt' jf' k' : ℕ) → code ≡ code' → jt ≡ jt' → jf ≡ jf' → k ≡ k'
    → (let a : Insn = record { code = code; jt = jt; jf = jf; k = k } in let b : Insn = record { code = code'; jt = jt'; jf = jf'; k = k' } in a ≡ b)
insn_is code jt jf k code' jt' jf' k' a b c d = rw (a, b, c, d) refl

-- a piece spells one instruction
insn_same : (words : List (List ℕ)) (i j : Insn) → SpellsInsn words i → SpellsInsn words j → i ≡ j
insn_same words i j p q =
    let four : p.a ∷ p.b ∷ p.c ∷ p.d ∷ [] ≡ q.a ∷ q.b ∷ q.c ∷ q.d ∷ [] = sym p.four ∙ q.four in
    let a : p.a ≡ q.a = cc in
    let b : p.b ≡ q.b = cc in
    let c : p.c ≡ q.c = cc in
    let d : p.d ≡ q.d = cc in
    insn_is i.code i.jt i.jf i.k j.code j.jt j.jf j.k
    (value_same p.a q.a i.code j.code a p.code q.code) (value_same p.b q.b i.jt j.jt b p.jt q.jt) (value_same p.c q.c i.jf j.jf c p.jf q.jf) (value_same p.d q.d i.k j.k d p.k q.k)

insns_same : (rest : List (List (List ℕ))) (p q : List Insn) → AllZip SpellsInsn rest p → AllZip SpellsInsn rest q → p ≡ q
insns_same [] [] [] a b = refl
insns_same [] [] (j ∷ q) a b = absurd b
insns_same [] (i ∷ p) q a b = absurd a
insns_same (words ∷ rest) [] q a b = absurd a
insns_same (words ∷ rest) (i ∷ p) [] a b = absurd b
insns_same (words ∷ rest) (i ∷ p) (j ∷ q) a b =
    let first : i ≡ j = insn_same words i j a.0 b.0 in
    let others : p ≡ q = insns_same rest p q a.1 b.1 in
    cc

-- a text spells one program at most
pub one_program : (text : List ℕ) (p q : List Insn) → Ddd text p → Ddd text q → p ≡ q
one_program text p q a b =
    let pieces : a.first ∷ a.rest ≡ b.first ∷ b.rest = pieces_same _ _ _ a.pieces b.pieces in
    let rest : a.rest ≡ b.rest = cc in
    insns_same b.rest p q (rw rest at a.each) b.each

-- a text that spells a program has no fault
no_first_bad : (first : List (List ℕ)) (rest : List (List (List ℕ))) (program : List Insn) (place : ℕ) → AllZip SpellsInsn rest program → IsFirstBad (first ∷ rest) place → ⊥
no_first_bad first rest program place each bad =
    let cut : first ∷ rest ≡ bad.first ∷ (bad.good ++ bad.bad ∷ bad.more) = bad.parts in
    let after : rest ≡ bad.good ++ bad.bad ∷ bad.more = cc in
    let within : length bad.good < length rest = omega (arith, ap length after, length-append bad.good (bad.bad ∷ bad.more)) in
    let there : get_or rest (length bad.good) bad.bad ≡ bad.bad = ap (λ xs. get_or xs (length bad.good) bad.bad) after ∙ get_or_at bad.good bad.bad bad.more bad.bad (length bad.good) refl in
    bad.here (rw there at (spelled_at rest program each (length bad.good) bad.bad within))

no_fault : (first : List (List ℕ)) (rest : List (List (List ℕ))) (program : List Insn) (fault : TextFault)
    → SpellsCount first (length program) → length program ≤ 4096 → AllZip SpellsInsn rest program → HasFault (first ∷ rest) fault → ⊥
no_fault first rest program (BadNumber place) count short each has = elim has [
  | inl none ↦ none.1 (length program) count
  | inr bad ↦ no_first_bad first rest program place each bad.2
]
no_fault first rest program TooLong count short each has =
    let same : has.0 ≡ length program = count_same first has.0 (length program) has.1 count in
    absurd (omega arith)
no_fault first rest program CountMismatch count short each has =
    let same : has.0 ≡ length program = count_same first has.0 (length program) has.1 count in
    has.3 (omega (arith, as_long SpellsInsn rest program each))
no_fault first rest program NoMemory count short each has = has

pub spelled_or_faulty : (text : List ℕ) (program : List Insn) (fault : TextFault) → Ddd text program → Faults text fault → ⊥
spelled_or_faulty text program fault a has =
    let pieces : has.0 ≡ a.first ∷ a.rest = pieces_same _ _ _ has.1 a.pieces in
    no_fault a.first a.rest program fault a.count a.short a.each (rw pieces at has.2)

-- of two first pieces that spell nothing, none is before the other
not_before : (pieces : List (List (List ℕ))) (p q : ℕ) → IsFirstBad pieces p → IsFirstBad pieces q → q ≤ p
not_before pieces p q a b =
    elim (cases_lt p q) [
      | inr fits ↦ fits
      | inl before ↦
          let whole : (a.first ∷ a.good) ++ a.bad ∷ a.more ≡ (b.first ∷ b.good) ++ b.bad ∷ b.more = sym a.parts ∙ b.parts in
          let cut : a.first ∷ (a.good ++ a.bad ∷ a.more) ≡ b.first ∷ (b.good ++ b.bad ∷ b.more) = whole in
          let after : a.good ++ a.bad ∷ a.more ≡ b.good ++ b.bad ∷ b.more = cc in
          let within : length a.good < length b.good = omega (arith, a.at, b.at) in
          let here : get_or (b.good ++ b.bad ∷ b.more) (length a.good) a.bad ≡ a.bad = ap (λ xs. get_or xs (length a.good) a.bad) (sym after) ∙ get_or_at a.good a.bad a.more a.bad (length a.good) refl in
          let there : get_or b.good (length a.good) a.bad ≡ a.bad = sym (get_or_append_left b.good (b.bad ∷ b.more) a.bad (length a.good) within) ∙ here in
          absurd (a.here (rw there at (b.before (length a.good) a.bad within)))
    ]

place_same : (pieces : List (List (List ℕ))) (p q : ℕ) → HasFault pieces (BadNumber p) → HasFault pieces (BadNumber q) → p ≡ q
place_same pieces p q a b = elim a [
  | inl none ↦ elim b [
    | inl nor ↦ none.0 ∙ sym nor.0
    | inr bad ↦ absurd (none.1 bad.0 bad.1.count)
  ]
  | inr bad ↦ elim b [
    | inl none ↦ absurd (none.1 bad.0 bad.1.count)
    | inr other ↦
        let low : q ≤ p = not_before pieces p q bad.2 other.2 in
        let high : p ≤ q = not_before pieces q p other.2 bad.2 in
        omega arith
  ]
]

-- a wrong place leaves the count too long for no text
not_too_long : (pieces : List (List (List ℕ))) (place : ℕ) → HasFault pieces (BadNumber place) → HasFault pieces TooLong → ⊥
not_too_long pieces place bad long = elim bad [
  | inl none ↦ none.1 long.0 long.1
  | inr found ↦ let same : found.0 ≡ long.0 = counts_same pieces found.0 long.0 found.1.count long.1 in absurd (omega (arith, found.1.short))
]

not_mismatched : (pieces : List (List (List ℕ))) (place : ℕ) → HasFault pieces (BadNumber place) → HasFault pieces CountMismatch → ⊥
not_mismatched pieces place bad other = elim bad [
  | inl none ↦ none.1 other.0 other.1
  | inr found ↦ let same : found.0 ≡ other.0 = counts_same pieces found.0 other.0 found.1.count other.1 in other.3 (omega (arith, found.1.number))
]

not_both_counts : (pieces : List (List (List ℕ))) → HasFault pieces TooLong → HasFault pieces CountMismatch → ⊥
not_both_counts pieces long other =
    let same : long.0 ≡ other.0 = counts_same pieces long.0 other.0 long.1 other.1 in
    absurd (omega arith)

fault_same : (pieces : List (List (List ℕ))) (f g : TextFault) → HasFault pieces f → HasFault pieces g → f ≡ g
fault_same pieces (BadNumber p) (BadNumber q) a b = ap BadNumber (place_same pieces p q a b)
fault_same pieces (BadNumber p) TooLong a b = absurd (not_too_long pieces p a b)
fault_same pieces (BadNumber p) CountMismatch a b = absurd (not_mismatched pieces p a b)
fault_same pieces TooLong (BadNumber q) a b = absurd (not_too_long pieces q b a)
fault_same pieces TooLong TooLong a b = refl
fault_same pieces TooLong CountMismatch a b = absurd (not_both_counts pieces a b)
fault_same pieces CountMismatch (BadNumber q) a b = absurd (not_mismatched pieces q b a)
fault_same pieces CountMismatch TooLong a b = absurd (not_both_counts pieces b a)
fault_same pieces CountMismatch CountMismatch a b = refl
fault_same pieces f NoMemory a b = absurd b
fault_same pieces NoMemory g a b = absurd a

-- a text has one first fault
pub one_fault : (text : List ℕ) (f g : TextFault) → Faults text f → Faults text g → f ≡ g
one_fault text f g a b =
    let pieces : a.0 ≡ b.0 = pieces_same _ _ _ a.1 b.1 in
    fault_same b.0 f g (rw pieces at a.2) b.2

-- an answer that is right is the only one, but for NoMemory
pub only_answer : {V : Type 0} (items : V → List Insn) (text : List ℕ) (r : Result V TextFault) → IfOk r (λ v. Ddd text (items v)) → IfErr r (λ f. (f ≡ NoMemory) ⊎ Faults text f)
    → (program : List Insn) → Ddd text program → MatchResult r (λ v. items v ≡ program) (λ f. f ≡ NoMemory)
only_answer items text (Ok v) ok err program so = one_program text (items v) program ok so
only_answer items text (Err f) ok err program so = elim err [ inl none ↦ none | inr has ↦ absurd (spelled_or_faulty text program f so has) ]

pub first_answer : {V : Type 0} (items : V → List Insn) (text : List ℕ) (r : Result V TextFault) → IfOk r (λ v. Ddd text (items v)) → IfErr r (λ f. (f ≡ NoMemory) ⊎ Faults text f)
    → (fault : TextFault) → Faults text fault → IsErrAnd r (λ f. (f ≡ NoMemory) ⊎ (f ≡ fault))
first_answer items text (Ok v) ok err fault so = absurd (spelled_or_faulty text (items v) fault ok so)
first_answer items text (Err f) ok err fault so = elim err [ inl none ↦ inl none | inr has ↦ inr (one_fault text f fault has so) ]
