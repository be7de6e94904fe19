-- Decimal texts, cut into their pieces.
use Rattle.std.proofs.Common.{◌≡◌, ◌≢◌, ℕ, zero, suc, ◌<◌, ◌^◌, List, [], ◌∷◌, ◌++◌, Some, inr, subst, sym, refl, lit<, lit≤, arith, codes}
use Rattle.std.specs.Prelude.{All}
use Rattle.bpf_insn.specs.Ddd.{Counts, Ddd, Faults, IsTrimmed, SpellsInsn}
use Rattle.bpf_insn.specs.declared.insn.TheConstants.{MAX_INSNS}
use Rattle.bpf_insn.specs.declared.ddd.TextFault.TheVariants.{CountMismatch, TooLong}
use Rattle.bpf_insn.specs.Texts.{number_of}
use Rattle.definitions_tried.proofs.Kept.{apart, not_below}
use Rattle.definitions_tried.specs.Filters.{insn}
use Rattle.definitions_tried.specs.Texts.{arp_all, arp_lines, arp_numbers}

spells : (code jt jf k : ℕ) (a b c d : List ℕ) → number_of a ≡ Some code → number_of b ≡ Some jt → number_of c ≡ Some jf → number_of d ≡ Some k → code < 2 ^ 16 → jt < 2 ^ 8 → jf < 2 ^ 8 → k < 2 ^ 32 → SpellsInsn (a ∷ b ∷ c ∷ d ∷ []) (insn code jt jf k)
spells code jt jf k a b c d is_code is_jt is_jf is_k code_fits jt_fits jf_fits k_fits = record {
  a = a;
  b = b;
  c = c;
  d = d;
  four = refl;
  code = is_code;
  jt = is_jt;
  jf = is_jf;
  k = is_k;
  code_fits = code_fits;
  jt_fits = jt_fits;
  jf_fits = jf_fits;
  k_fits = k_fits;
}

one_empty : All (λ (words : List (List ℕ)). words ≡ []) ([] ∷ [])
one_empty zero d inside = refl
one_empty (suc k) d inside = absurd (omega (arith, inside))

not_empty : (word : List ℕ) (words : List (List ℕ)) → word ∷ words ≢ []
not_empty word words e = cc

pub lines : Ddd arp_lines arp_all
lines = record {
  first = codes "4" ∷ [];
  rest = (codes "40" ∷ codes "0" ∷ codes "0" ∷ codes "12" ∷ []) ∷ (codes "21" ∷ codes "0" ∷ codes "1" ∷ codes "2054" ∷ []) ∷ (codes "6" ∷ codes "0" ∷ codes "0" ∷ codes "4294967295" ∷ []) ∷ (codes "6" ∷ codes "0" ∷ codes "0" ∷ codes "0" ∷ []) ∷ [];
  pieces = record { gap = [] ∷ []; whole = refl; empty = one_empty; full = inr ((codes "4" ∷ []) ∷ (codes "40" ∷ codes "0" ∷ codes "0" ∷ codes "12" ∷ []) ∷ (codes "21" ∷ codes "0" ∷ codes "1" ∷ codes "2054" ∷ []) ∷ (codes "6" ∷ codes "0" ∷ codes "0" ∷ codes "4294967295" ∷ []) ∷ [], (codes "6" ∷ codes "0" ∷ codes "0" ∷ codes "0" ∷ []), refl, not_empty _ _) };
  count = record { word = codes "4"; alone = refl; value = refl };
  short = lit≤ tt;
  each = (spells 40 0 0 12 (codes "40") (codes "0") (codes "0") (codes "12") refl refl refl refl (lit< tt) (lit< tt) (lit< tt) (lit< tt), (spells 21 0 1 2054 (codes "21") (codes "0") (codes "1") (codes "2054") refl refl refl refl (lit< tt) (lit< tt) (lit< tt) (lit< tt), (spells 6 0 0 4294967295 (codes "6") (codes "0") (codes "0") (codes "4294967295") refl refl refl refl (lit< tt) (lit< tt) (lit< tt) (lit< tt), (spells 6 0 0 0 (codes "6") (codes "0") (codes "0") (codes "0") refl refl refl refl (lit< tt) (lit< tt) (lit< tt) (lit< tt), tt))));
}

pub numbers : Ddd arp_numbers arp_all
numbers = record {
  first = codes "4" ∷ [];
  rest = (codes "40" ∷ codes "0" ∷ codes "0" ∷ codes "12" ∷ []) ∷ (codes "21" ∷ codes "0" ∷ codes "1" ∷ codes "2054" ∷ []) ∷ (codes "6" ∷ codes "0" ∷ codes "0" ∷ codes "4294967295" ∷ []) ∷ (codes "6" ∷ codes "0" ∷ codes "0" ∷ codes "0" ∷ []) ∷ [];
  pieces = record { gap = [] ∷ []; whole = refl; empty = one_empty; full = inr ((codes "4" ∷ []) ∷ (codes "40" ∷ codes "0" ∷ codes "0" ∷ codes "12" ∷ []) ∷ (codes "21" ∷ codes "0" ∷ codes "1" ∷ codes "2054" ∷ []) ∷ (codes "6" ∷ codes "0" ∷ codes "0" ∷ codes "4294967295" ∷ []) ∷ [], (codes "6" ∷ codes "0" ∷ codes "0" ∷ codes "0" ∷ []), refl, not_empty _ _) };
  count = record { word = codes "4"; alone = refl; value = refl };
  short = lit≤ tt;
  each = (spells 40 0 0 12 (codes "40") (codes "0") (codes "0") (codes "12") refl refl refl refl (lit< tt) (lit< tt) (lit< tt) (lit< tt), (spells 21 0 1 2054 (codes "21") (codes "0") (codes "1") (codes "2054") refl refl refl refl (lit< tt) (lit< tt) (lit< tt) (lit< tt), (spells 6 0 0 4294967295 (codes "6") (codes "0") (codes "0") (codes "4294967295") refl refl refl refl (lit< tt) (lit< tt) (lit< tt) (lit< tt), (spells 6 0 0 0 (codes "6") (codes "0") (codes "0") (codes "0") refl refl refl refl (lit< tt) (lit< tt) (lit< tt) (lit< tt), tt))));
}

-- The count alone

none_empty : All (λ (words : List (List ℕ)). words ≡ []) []
none_empty k d inside = absurd (omega (arith, inside))

alone : (word : List ℕ) → IsTrimmed ((word ∷ []) ∷ []) ((word ∷ []) ∷ [])
alone word = record { gap = []; whole = refl; empty = none_empty; full = inr ([], word ∷ [], refl, not_empty _ _) }

pub count_of_4096 : Faults (codes "4096") CountMismatch
count_of_4096 = ((codes "4096" ∷ []) ∷ [], alone (codes "4096"), (4096, record { word = codes "4096"; alone = refl; value = refl }, lit≤ tt, λ e. apart 1 4097 (lit< tt) e))

pub count_of_4097 : Faults (codes "4097") TooLong
count_of_4097 = ((codes "4097" ∷ []) ∷ [], alone (codes "4097"), (4097, record { word = codes "4097"; alone = refl; value = refl }, lit< tt))

-- the only count is 4,096
counted : (pieces gap : List (List (List ℕ))) (n : ℕ) → (codes "4096" ∷ []) ∷ [] ≡ pieces ++ gap → Counts pieces n → n ≡ 4096
counted [] gap n e counts = absurd counts
counted (first ∷ rest) gap n e counts =
    let words : codes "4096" ∷ [] ≡ first = cc in
    let word : codes "4096" ≡ counts.word = let same = counts.alone in cc in
    let value : Some 4096 ≡ Some n = subst (λ w. number_of w ≡ Some n) (sym word) counts.value in cc

pub not_too_long_at_4096 : Faults (codes "4096") TooLong → ⊥
not_too_long_at_4096 f = let same = counted f.0 f.1.gap f.2.0 f.1.whole f.2.1 in let over = f.2.2 in absurd (not_below 4096 MAX_INSNS (lit≤ tt) (subst (λ n. MAX_INSNS < n) same over))
