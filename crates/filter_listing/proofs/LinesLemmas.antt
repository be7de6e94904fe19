-- The lines of a listing, one after another.
use Rattle.std.proofs.Common.{◌≡◌, ◌≢◌, ℕ, suc, eqb, ◌+◌, ◌<◌, ◌≤◌, ◌⊎◌, inl, inr, Bool, true, false, not, List, [], ◌∷◌, ◌++◌, length, filter, Option, Some, None, refl, sym, ap, subst, ◌∙◌, arith, append_assoc, length-append, lit≤}
use Rattle.std.specs.Prelude.{◌==◌}
use Rattle.std.specs.List.{AllZip, enumerate_from}
use Rattle.std.proofs.lemmas.List.{append-nil}
use Rattle.std.proofs.lemmas.Slice.Zip.{AllZip-long}
use Rattle.std.proofs.lemmas.List.FromFn.{length-enumerate_from}
use Rattle.std.proofs.lemmas.Bool.{cases_Bool}
use Rattle.std.proofs.lemmas.Bool.Decides.{nat_tests}
use Rattle.bpf_insn.specs.declared.insn.Insn.{Insn}
use Rattle.bpf_insn.specs.declared.insn.TheConstants.{MAX_INSNS}
use Rattle.bpf_insn.specs.Texts.{words_of}
use Rattle.filter_listing.specs.declared.reading.Style.{Style}
use Rattle.filter_listing.specs.declared.fault.ListingFault.{ListingFault}
use Rattle.filter_listing.specs.declared.fault.ListingFaultKind.{ListingFaultKind}
use Rattle.filter_listing.specs.declared.fault.ListingFaultKind.TheVariants.{BadLine, TooLong, NoMemory}
use Rattle.filter_listing.specs.Lines.{lines_of, has_words, filled, IsLine, AreLines, SpellsIn, FaultsIn, IsRefused}
use Rattle.filter_listing.specs.Steps.{lines_left, Stepped, LineRefused}

some_length : (ws : List (List ℕ)) → not (suc (length ws) == 0) ≡ true
some_length ws = let e : eqb (suc (length ws)) 0 ≡ false = grind (arith, nat_tests) in rw e refl

length_push : {A : Type 0} (xs : List A) (x : A) → length (xs ++ x ∷ []) ≡ length xs + 1
length_push xs x = length-append xs (x ∷ [])

-- each of some lines is that of its instruction, from a place on
abbrev At : Style → List ℕ → ℕ × Insn → Type 0
At style line at = IsLine style at.0 line at.1

abbrev AreFrom : Style → ℕ → List (List ℕ) → List Insn → Type 0
AreFrom style n lines program = AllZip (At style) lines (enumerate_from n program)

has_none : (line : List ℕ) → words_of line ≡ [] → has_words line ≡ false
has_none line e = rw e refl

has_some : (line : List ℕ) → words_of line ≢ [] → has_words line ≡ true
has_some line e = elim (words_of line) as (λ ws. ws ≢ [] → not (length ws == 0) ≡ true) [ [] ↦ λ no. absurd (no refl) | (w ∷ ws) ↦ λ no. some_length ws ] e

filled_append : (xs ys : List (List ℕ)) → filled (xs ++ ys) ≡ filled xs ++ filled ys
filled_append [] ys = refl
filled_append (x ∷ xs) ys = elim (cases_Bool (has_words x)) [
  | inl some ↦ rw (some, filled_append xs ys) refl
  | inr none ↦ rw (none, filled_append xs ys) refl
]

filled_none : (line : List ℕ) → words_of line ≡ [] → filled (line ∷ []) ≡ []
filled_none line e = rw (has_none line e) refl

filled_some : (line : List ℕ) (more : List (List ℕ)) → words_of line ≢ [] → filled (line ∷ more) ≡ line ∷ filled more
filled_some line more e = rw (has_some line e) refl

-- one more line
push_from : (style : Style) (n : ℕ) (lines : List (List ℕ)) (program : List Insn) (line : List ℕ) (insn : Insn) → AreFrom style n lines program → IsLine style (n + length program) line insn
    → AreFrom style n (lines ++ line ∷ []) (program ++ insn ∷ [])
push_from style n [] [] line insn are is = (subst (λ m. IsLine style m line insn) (omega arith) is, tt)
push_from style n [] (i ∷ program) line insn are is = absurd are
push_from style n (l ∷ lines) [] line insn are is = absurd are
push_from style n (l ∷ lines) (i ∷ program) line insn are is =
    (are.0, push_from style (n + 1) lines program line insn are.1 (subst (λ m. IsLine style m line insn) (omega arith) is))

-- the line after others is that of the instruction at its place
split_from : (style : Style) (n : ℕ) (lines : List (List ℕ)) (line : List ℕ) (more : List (List ℕ)) (program : List Insn) → AreFrom style n (lines ++ line ∷ more) program
    → (insn : Insn) × IsLine style (n + length lines) line insn
split_from style n [] line more [] are = absurd are
split_from style n [] line more (i ∷ program) are = (i, subst (λ m. IsLine style m line i) (omega arith) are.0)
split_from style n (l ∷ lines) line more [] are = absurd are
split_from style n (l ∷ lines) line more (i ∷ program) are =
    let found = split_from style (n + 1) lines line more program are.1 in
    (found.0, subst (λ m. IsLine style m line found.0) (omega arith) found.1)

as_long : (style : Style) (lines : List (List ℕ)) (program : List Insn) → AreFrom style 0 lines program → length lines ≡ length program
as_long style lines program are = sym (AllZip-long (At style) lines (enumerate_from 0 program) are) ∙ length-enumerate_from 0 program

-- how far a text was read
pub record ReadTo (style : Style) (text : List ℕ) (left : List (List ℕ)) (number : ℕ) (program : List Insn) : Type 0 where
  pub done : List (List ℕ)
  pub parts : lines_of text ≡ done ++ left
  pub count : length done ≡ number
  pub short : length program ≤ MAX_INSNS
  pub are : AreLines style done program

pub read_none : (style : Style) (text : List ℕ) → ReadTo style text (lines_of text) 0 []
read_none style text = record { done = []; parts = refl; count = refl; short = lit≤ tt; are = tt }

skipped : (style : Style) (done : List (List ℕ)) (line : List ℕ) (program : List Insn) → AreLines style done program → words_of line ≡ [] → AreLines style (done ++ line ∷ []) program
skipped style done line program are none =
    let e : filled (done ++ line ∷ []) ≡ filled done = filled_append done (line ∷ []) ∙ (ap (λ l. filled done ++ l) (filled_none line none) ∙ append-nil (filled done)) in
    rw e are

pushed : (style : Style) (done : List (List ℕ)) (line : List ℕ) (program : List Insn) (insn : Insn) → AreLines style done program → words_of line ≢ [] → IsLine style (length program) line insn
    → AreLines style (done ++ line ∷ []) (program ++ insn ∷ [])
pushed style done line program insn are some is =
    let e : filled (done ++ line ∷ []) ≡ filled done ++ line ∷ [] = filled_append done (line ∷ []) ∙ ap (λ l. filled done ++ l) (filled_some line [] some) in
    rw e (push_from style 0 (filled done) program line insn are (subst (λ m. IsLine style m line insn) (omega arith) is))

stepped_lines : (style : Style) (done : List (List ℕ)) (line : List ℕ) (old new : List Insn) → AreLines style done old → length old ≤ MAX_INSNS → Stepped style line old new
    → AreLines style (done ++ line ∷ []) new × (length new ≤ MAX_INSNS)
stepped_lines style done line old new are short step = elim step [
  | inl none ↦ rw none.1 (skipped style done line old are none.0, short)
  | inr some ↦
      let insn = some.2.0 in
      let long : length new ≡ length old + 1 = ap length some.2.1 ∙ length_push old insn in
      let within : length new ≤ MAX_INSNS = omega (arith, long, some.1) in
      (rw some.2.1 (pushed style done line old insn are some.0 some.2.2), within)
]

pub read_more : (style : Style) (text line : List ℕ) (left : List (List ℕ)) (number : ℕ) (old new : List Insn) → ReadTo style text (line ∷ left) number old → Stepped style line old new
    → ReadTo style text left (number + 1) new
read_more style text line left number old new so step =
    let next = stepped_lines style so.done line old new so.are so.short step in
    record {
      done = so.done ++ line ∷ [];
      parts = so.parts ∙ sym (append_assoc so.done (line ∷ []) left);
      count = length_push so.done line ∙ ap (λ n. n + 1) so.count;
      short = next.1;
      are = next.0;
    }

pub read_all : (style : Style) (text : List ℕ) (number : ℕ) (program : List Insn) → ReadTo style text [] number program → SpellsIn style text program
read_all style text number program so =
    let whole : lines_of text ≡ so.done = so.parts ∙ append-nil so.done in
    record { short = so.short; listed = rw whole so.are }

pub read_fault : (style : Style) (text line : List ℕ) (left : List (List ℕ)) (number : ℕ) (program : List Insn) (fault : ListingFault) → ReadTo style text (line ∷ left) number program
    → number + 1 ≡ fault.line → LineRefused fault.kind style line program → FaultsIn style text fault
read_fault style text line left number program fault so at refused = record {
  good = so.done;
  bad = line;
  more = left;
  program = program;
  parts = so.parts;
  at = ap (λ n. n + 1) so.count ∙ at;
  before = so.are;
  worded = refused.0;
  refused = refused.1;
}

-- a listing has no fault
refused_kind : (kind : ListingFaultKind) (style : Style) (lines : List (List ℕ)) (line : List ℕ) (more : List (List ℕ)) (before program : List Insn) → IsRefused kind style before line
    → length lines ≡ length before → AreFrom style 0 (lines ++ line ∷ more) program → length program ≤ MAX_INSNS → ⊥
refused_kind BadLine style lines line more before program refused long are short =
    let found = split_from style 0 lines line more program are in
    refused.1 found.0 (subst (λ m. IsLine style m line found.0) (omega (arith, long)) found.1)
refused_kind TooLong style lines line more before program refused long are short =
    let whole : length (lines ++ line ∷ more) ≡ length program = as_long style (lines ++ line ∷ more) program are in
    let both : length lines + suc (length more) ≡ length program = sym (length-append lines (line ∷ more)) ∙ whole in omega (arith, long, refused)
refused_kind NoMemory style lines line more before program refused long are short = refused

pub no_fault : (style : Style) (text : List ℕ) (program : List Insn) (fault : ListingFault) → SpellsIn style text program → FaultsIn style text fault → ⊥
no_fault style text program fault spelled faulty =
    let listed = rw faulty.parts at spelled.listed in
    let cut : filled (faulty.good ++ faulty.bad ∷ faulty.more) ≡ filled faulty.good ++ faulty.bad ∷ filled faulty.more =
    filled_append faulty.good (faulty.bad ∷ faulty.more) ∙ ap (λ l. filled faulty.good ++ l) (filled_some faulty.bad faulty.more faulty.worded) in
    refused_kind fault.kind style (filled faulty.good) faulty.bad (filled faulty.more) faulty.program program faulty.refused (as_long style (filled faulty.good) faulty.program faulty.before)
    (rw cut at listed) spelled.short
