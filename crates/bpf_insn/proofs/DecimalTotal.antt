-- Every decimal text spells a program or has a first fault.
use Rattle.std.proofs.Common.{◌≡◌, ℕ, ◌+◌, ◌≤◌, ◌<◌, ◌⊎◌, ◌^◌, List, [], ◌∷◌, ◌++◌, length, refl, ap, sym, ◌∙◌, inl, inr, arith, zero, suc, get_or, subst, Option, Some, None}
use Rattle.std.specs.List.{AllZip, All}
use Rattle.std.proofs.lemmas.Bool.{cases_lt, cases_order}
use Rattle.bpf_insn.specs.Texts.{number_of}
use Rattle.bpf_insn.specs.declared.insn.Insn.{Insn}
use Rattle.bpf_insn.specs.declared.ddd.TextFault.{TextFault}
use Rattle.bpf_insn.specs.declared.ddd.TextFault.TheVariants.{BadNumber, CountMismatch, TooLong}
use Rattle.bpf_insn.specs.Ddd.{Ddd, Faults, HasOutcome, IsTrimmed, IsInsn, IsPieces, Counts, SpellsCount, SpellsInsn, cuts}
use Rattle.bpf_insn.proofs.DddLemmas.{CountSoFar, count_start, count_full, count_empty, count_end, as_long}

-- a text has pieces
pieces_from : (cut left : List (List (List ℕ))) (place count : ℕ) → CountSoFar cut left place count → (pieces : List (List (List ℕ))) × IsTrimmed cut pieces
pieces_from cut [] place count so = let found = count_end cut [] place count so refl in (found.0, found.1)
pieces_from cut ([] ∷ rest) place count so = pieces_from cut rest (place + 1) count (count_empty cut ([] ∷ rest) rest [] place count so refl refl)
pieces_from cut ((word ∷ words) ∷ rest) place count so = pieces_from cut rest (place + 1) (place + 1) (count_full cut ((word ∷ words) ∷ rest) rest (word ∷ words) place count so refl (λ e. cc))

-- a word writes a number below a limit, or none
abbrev Writes : List ℕ → ℕ → Type 0
Writes word limit = (n : ℕ) × (number_of word ≡ Some n) × (n < limit)

some_number : (word : List ℕ) (found : Option ℕ) → number_of word ≡ found → ((n : ℕ) × (number_of word ≡ Some n)) ⊎ ((n : ℕ) → number_of word ≡ Some n → ⊥)
some_number word (Some n) e = inl (n, e)
some_number word None e = inr (λ n other. cc (e, other))

writes_or_not : (word : List ℕ) (limit : ℕ) → Writes word limit ⊎ ¬ (Writes word limit)
writes_or_not word limit = elim (some_number word (number_of word) refl) [
  | inl found ↦ elim (cases_lt (found.0) limit) [
    | inl below ↦ inl (found.0, found.1, below)
    | inr above ↦ inr (λ w. let same : Some (found.0) ≡ Some (w.0) = sym found.1 ∙ w.1 in let n : found.0 ≡ w.0 = cc in omega (arith, n, above, w.2))
  ]
  | inr none ↦ inr (λ w. none w.0 w.1)
]

-- a piece is an instruction, or isn't
no_length : (words : List (List ℕ)) → (length words ≡ 4 → ⊥) → ¬ (IsInsn words)
no_length words other i = other (ap length i.1.four)

four_words : (a b c d : List ℕ) → IsInsn (a ∷ b ∷ c ∷ d ∷ []) ⊎ ¬ (IsInsn (a ∷ b ∷ c ∷ d ∷ []))
four_words a b c d = elim (writes_or_not a (2 ^ 16)) [
  | inr nor ↦ inr (λ i. let e : a ∷ b ∷ c ∷ d ∷ [] ≡ i.1.a ∷ i.1.b ∷ i.1.c ∷ i.1.d ∷ [] = i.1.four in let same : a ≡ i.1.a = cc in nor (i.0.code, ap number_of same ∙ i.1.code, i.1.code_fits))
  | inl code ↦ elim (writes_or_not b (2 ^ 8)) [
    | inr nor ↦ inr (λ i. let e : a ∷ b ∷ c ∷ d ∷ [] ≡ i.1.a ∷ i.1.b ∷ i.1.c ∷ i.1.d ∷ [] = i.1.four in let same : b ≡ i.1.b = cc in nor (i.0.jt, ap number_of same ∙ i.1.jt, i.1.jt_fits))
    | inl jt ↦ elim (writes_or_not c (2 ^ 8)) [
      | inr nor ↦ inr (λ i. let e : a ∷ b ∷ c ∷ d ∷ [] ≡ i.1.a ∷ i.1.b ∷ i.1.c ∷ i.1.d ∷ [] = i.1.four in let same : c ≡ i.1.c = cc in nor (i.0.jf, ap number_of same ∙ i.1.jf, i.1.jf_fits))
      | inl jf ↦ elim (writes_or_not d (2 ^ 32)) [
        | inr nor ↦ inr (λ i. let e : a ∷ b ∷ c ∷ d ∷ [] ≡ i.1.a ∷ i.1.b ∷ i.1.c ∷ i.1.d ∷ [] = i.1.four in let same : d ≡ i.1.d = cc in nor (i.0.k, ap number_of same ∙ i.1.k, i.1.k_fits))
        | inl k ↦ inl (
          record { code = code.0; jt = jt.0; jf = jf.0; k = k.0 },
          record {
            a = a;
            b = b;
            c = c;
            d = d;
            four = refl;
            code = code.1;
            jt = jt.1;
            jf = jf.1;
            k = k.1;
            code_fits = code.2;
            jt_fits = jt.2;
            jf_fits = jf.2;
            k_fits = k.2;
          },
        )
      ]
    ]
  ]
]

insn_or_not : (words : List (List ℕ)) → IsInsn words ⊎ ¬ (IsInsn words)
insn_or_not [] = inr (no_length [] (λ e. omega (arith, e)))
insn_or_not (a ∷ []) = inr (no_length (a ∷ []) (λ e. omega (arith, e)))
insn_or_not (a ∷ b ∷ []) = inr (no_length (a ∷ b ∷ []) (λ e. omega (arith, e)))
insn_or_not (a ∷ b ∷ c ∷ []) = inr (no_length (a ∷ b ∷ c ∷ []) (λ e. omega (arith, e)))
insn_or_not (a ∷ b ∷ c ∷ d ∷ []) = four_words a b c d
insn_or_not (a ∷ b ∷ c ∷ d ∷ e ∷ more) = inr (no_length (a ∷ b ∷ c ∷ d ∷ e ∷ more) (λ same. omega (arith, same)))

-- pieces spell instructions, or the first of them that is none
record HasBad (pieces : List (List (List ℕ))) : Type 0 where
  pub good : List (List (List ℕ))
  pub bad : List (List ℕ)
  pub more : List (List (List ℕ))
  pub parts : pieces ≡ good ++ bad ∷ more
  pub before : All IsInsn good
  pub here : ¬ (IsInsn bad)

all_none : All IsInsn []
all_none = λ k d within. absurd (omega arith)

all_more : (words : List (List ℕ)) (good : List (List (List ℕ))) → IsInsn words → All IsInsn good → All IsInsn (words ∷ good)
all_more words good one all = λ k d within. go k within d
  where
    go : (k : ℕ) → k < length (words ∷ good) → (d : List (List ℕ)) → IsInsn (get_or (words ∷ good) k d)
    go zero within d = one
    go (suc k) within d = all k d (omega arith)

insns_or_bad : (pieces : List (List (List ℕ))) → ((program : List Insn) × AllZip SpellsInsn pieces program) ⊎ HasBad pieces
insns_or_bad [] = inl ([], tt)
insns_or_bad (words ∷ rest) = elim (insn_or_not words) [
  | inr none ↦ inr (record { good = []; bad = words; more = rest; parts = refl; before = all_none; here = none })
  | inl one ↦ elim (insns_or_bad rest) [
    | inl all ↦ inl (one.0 ∷ all.0, (one.1, all.1))
    | inr bad ↦ inr (record {
      good = words ∷ bad.good;
      bad = bad.bad;
      more = bad.more;
      parts = ap (λ t. words ∷ t) bad.parts;
      before = all_more words bad.good one bad.before;
      here = bad.here;
    })
  ]
]

-- pieces have a count, or none
count_or_none : (pieces : List (List (List ℕ))) → ((n : ℕ) × Counts pieces n) ⊎ ((n : ℕ) → ¬ (Counts pieces n))
count_or_none [] = inr (λ n c. c)
count_or_none ([] ∷ rest) = inr (λ n c. cc c.alone)
count_or_none ((word ∷ next ∷ more) ∷ rest) = inr (λ n c. cc c.alone)
count_or_none ((word ∷ []) ∷ rest) = elim (some_number word (number_of word) refl) [
  | inl found ↦ inl (found.0, record { word = word; alone = refl; value = found.1 })
  | inr none ↦ inr (λ n c. let e : word ∷ [] ≡ c.word ∷ [] = c.alone in let same : word ≡ c.word = cc in none n (ap number_of same ∙ c.value))
]

-- pieces of a right count
counted : (text : List ℕ) (first : List (List ℕ)) (rest : List (List (List ℕ))) (n : ℕ) → IsPieces text (first ∷ rest) → SpellsCount first n → n ≤ 4096 → length (first ∷ rest) ≡ n + 1
    → ((program : List Insn) × Ddd text program) ⊎ ((fault : TextFault) × Faults text fault)
counted text first rest n pieces count short number = elim (insns_or_bad rest) [
  | inl all ↦
      let long : n ≡ length all.0 = omega (arith, number, as_long SpellsInsn rest all.0 all.1) in
      inl (
        all.0,
        record { first = first; rest = rest; pieces = pieces; count = subst (SpellsCount first) long count; short = omega (arith, long, short); each = all.1 },
      )
  | inr bad ↦ inr (
    BadNumber (length bad.good + 1),
    (
      first ∷ rest,
      pieces,
      inr (
        n,
        record { count = count; short = short; number = number },
        record {
          first = first;
          good = bad.good;
          bad = bad.bad;
          more = bad.more;
          parts = ap (λ t. first ∷ t) bad.parts;
          at = refl;
          before = bad.before;
          here = bad.here;
        },
      ),
    ),
  )
]

numbered : (text : List ℕ) (pieces : List (List (List ℕ))) (n : ℕ) → IsPieces text pieces → Counts pieces n → ((program : List Insn) × Ddd text program) ⊎ ((fault : TextFault) × Faults text fault)
numbered text [] n pieces count = absurd count
numbered text (first ∷ rest) n pieces count = elim (cases_lt 4096 n) [
  | inl long ↦ inr (TooLong, (first ∷ rest, pieces, (n, count, long)))
  | inr short ↦ elim (cases_order (length (first ∷ rest)) (n + 1)) [
    | inl same ↦ counted text first rest n pieces count short same
    | inr other ↦ inr (CountMismatch, (first ∷ rest, pieces, (n, count, short, λ same. elim other [ inl less ↦ omega (arith, same, less) | inr more ↦ omega (arith, same, more) ])))
  ]
]

pub spelled_or_fault : (text : List ℕ) → HasOutcome text
spelled_or_fault text =
    let found = pieces_from (cuts text) (cuts text) 0 0 (count_start (cuts text)) in
    elim (count_or_none found.0) [
      | inl count ↦ numbered text found.0 count.0 found.1 count.1
      | inr none ↦ inr (BadNumber 0, (found.0, found.1, inl (refl, none)))
    ]
