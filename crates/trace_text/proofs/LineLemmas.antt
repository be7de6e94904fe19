-- The lines of a text that goes on after an LF, and the first word of a line.
use Rattle.std.proofs.Common.{◌≡◌, ℕ, suc, ◌+◌, Bool, true, false, not, eqb, List, [], ◌∷◌, ◌++◌, length, take, drop, filter, refl, sym, ap, ◌∙◌, inl, inr, arith, append_assoc}
use Rattle.std.specs.List.{slice_split, onto_first, position_or_len, before_first, after_first}
use Rattle.std.proofs.lemmas.Bool.{cases_Bool}
use Rattle.std.proofs.lemmas.List.{append-nil}
use Rattle.std.proofs.lemmas.List.Splits.{slice_split-cons_yes, slice_split-cons_no, slice_split_at}
use Rattle.bpf_insn.specs.Texts.{is_blank, words_of}
use Rattle.filter_asm.specs.Program.{ended, text_lines}
use Rattle.filter_asm.proofs.LineLemmas.{parts_some}
use Rattle.mk_script.specs.Statements.{is_skipped, opens_block}
use Rattle.trace_text.proofs.TextLemmas.{is_lf, Lacks, lacks_all, not_empty}

-- Lines

ended_more : (lines : List (List ℕ)) (first : List ℕ) (more : List (List ℕ)) → ended (lines ++ first ∷ more) ≡ lines ++ ended (first ∷ more)
ended_more [] first more = refl
ended_more (line ∷ []) first more = refl
ended_more (line ∷ next ∷ lines) first more = ap (λ l. line ∷ l) (ended_more (next ∷ lines) first more)

-- after an LF the lines go on
split_more : (front more : List ℕ) → slice_split is_lf (front ++ 10 ∷ more) ≡ slice_split is_lf front ++ slice_split is_lf more
split_more [] more = refl
split_more (x ∷ front) more = elim (cases_Bool (is_lf x)) [
  | inl ends ↦ slice_split-cons_yes is_lf x (front ++ 10 ∷ more) ends ∙ ap (λ l. [] ∷ l) (split_more front more) ∙ ap (λ l. l ++ slice_split is_lf more) (sym (slice_split-cons_yes is_lf x front ends))
  | inr goes_on ↦
      let first = parts_some front in
      let onto : onto_first x (slice_split is_lf front ++ slice_split is_lf more) ≡ onto_first x (slice_split is_lf front) ++ slice_split is_lf more = rw first.1.1 refl in
      slice_split-cons_no is_lf x (front ++ 10 ∷ more) goes_on ∙ ap (onto_first x) (split_more front more) ∙ onto
      ∙ ap (λ l. l ++ slice_split is_lf more) (sym (slice_split-cons_no is_lf x front goes_on))
]

lines_after : (front more : List ℕ) → text_lines (front ++ 10 ∷ more) ≡ slice_split is_lf front ++ text_lines more
lines_after front more =
    let first = parts_some more in
    ap ended (split_more front more) ∙ ap (λ l. ended (slice_split is_lf front ++ l)) first.1.1 ∙ ended_more (slice_split is_lf front) first.0 first.1.0
    ∙ ap (λ l. slice_split is_lf front ++ ended l) (sym first.1.1)

pub lines_join : (text front more : List ℕ) → text ≡ front ++ 10 ∷ [] → text_lines (text ++ more) ≡ text_lines text ++ text_lines more
lines_join text front more e =
    let whole : text ++ more ≡ front ++ 10 ∷ more = ap (λ t. t ++ more) e ∙ append_assoc front (10 ∷ []) more in
    let lines : text_lines text ≡ slice_split is_lf front = ap text_lines e ∙ lines_after front [] ∙ append-nil (slice_split is_lf front) in
    ap text_lines whole ∙ lines_after front more ∙ ap (λ l. l ++ text_lines more) (sym lines)

-- a line, and the lines after it
pub line_then : (line more : List ℕ) → Lacks is_lf line → text_lines (line ++ 10 ∷ more) ≡ line ∷ text_lines more
line_then line more lacks =
    let first = parts_some more in
    ap ended (slice_split_at is_lf line 10 more (lacks_all is_lf line lacks) refl) ∙ ap (λ l. ended (line ∷ l)) first.1.1 ∙ ap (λ l. line ∷ ended l) (sym first.1.1)

-- What is before a byte, and after it

first_place : (p : ℕ → Bool) (x : ℕ) (front more : List ℕ) → p x ≡ true → Lacks p front → position_or_len p (front ++ x ∷ more) ≡ length front
first_place p x [] more is lacks = rw is refl
first_place p x (y ∷ front) more is lacks = elim (cases_Bool (p y)) [
  | inl passes ↦ let never = rw passes at lacks in absurd (cc)
  | inr fails ↦ let rest = rw fails at lacks in rw (fails, first_place p x front more is rest) (omega arith)
]

take_front : (front : List ℕ) (x : ℕ) (more : List ℕ) → take (length front) (front ++ x ∷ more) ≡ front
take_front [] x more = refl
take_front (y ∷ front) x more = ap (λ l. y ∷ l) (take_front front x more)

drop_front : (front : List ℕ) (x : ℕ) (more : List ℕ) → drop (suc (length front)) (front ++ x ∷ more) ≡ more
drop_front [] x more = refl
drop_front (y ∷ front) x more = drop_front front x more

pub before_at : (p : ℕ → Bool) (x : ℕ) (front more : List ℕ) → p x ≡ true → Lacks p front → before_first p (front ++ x ∷ more) ≡ front
before_at p x front more is lacks = ap (λ n. take n (front ++ x ∷ more)) (first_place p x front more is lacks) ∙ take_front front x more

pub after_at : (p : ℕ → Bool) (x : ℕ) (front more : List ℕ) → p x ≡ true → Lacks p front → after_first p (front ++ x ∷ more) ≡ more
after_at p x front more is lacks =
    let next : position_or_len p (front ++ x ∷ more) + 1 ≡ suc (length front) = omega (arith, first_place p x front more is lacks) in
    ap (λ n. drop n (front ++ x ∷ more)) next ∙ drop_front front x more

-- The first word

parts_of : (p : ℕ → Bool) (xs : List ℕ) → (first : List ℕ) × ((more : List (List ℕ)) × (slice_split p xs ≡ first ∷ more))
parts_of p [] = ([], ([], refl))
parts_of p (x ∷ xs) = elim (cases_Bool (p x)) [
  | inl ends ↦ ([], (slice_split p xs, slice_split-cons_yes p x xs ends))
  | inr goes_on ↦ let r = parts_of p xs in (x ∷ r.0, (r.1.0, slice_split-cons_no p x xs goes_on ∙ ap (onto_first x) r.1.1))
]

-- the first word of bytes that begin with this one
pub record BeginsWith (b : ℕ) (words : List (List ℕ)) : Type 0 where
  pub rest : List ℕ
  pub more : List (List ℕ)
  pub is : words ≡ (b ∷ rest) ∷ more

pub begins_with : (b : ℕ) (bytes : List ℕ) → is_blank b ≡ false → BeginsWith b (words_of (b ∷ bytes))
begins_with b bytes other =
    let parts = parts_of is_blank bytes in
    let cut : slice_split is_blank (b ∷ bytes) ≡ (b ∷ parts.0) ∷ parts.1.0 = slice_split-cons_no is_blank b bytes other ∙ ap (onto_first b) parts.1.1 in
    let keeps : not (eqb (length (b ∷ parts.0)) 0) ≡ true = not_empty (b ∷ parts.0) (omega arith) in
    record {
      rest = parts.0;
      more = filter (λ w. not (eqb (length w) 0)) parts.1.0;
      is = ap (filter (λ w. not (eqb (length w) 0))) cut ∙ (rw keeps refl);
    }

-- a line that begins neither with `#` nor with the first letter of `asm` is a statement by itself
pub record IsAlone (words : List (List ℕ)) : Type 0 where
  pub stays : is_skipped words ≡ false
  pub alone : opens_block words ≡ false

pub stands_alone : (b : ℕ) (bytes : List ℕ) → is_blank b ≡ false → eqb b 35 ≡ false → eqb b 97 ≡ false → IsAlone (words_of (b ∷ bytes))
stands_alone b bytes other no_mark no_asm =
    let first = begins_with b bytes other in
    record {
      stays = ap is_skipped first.is ∙ no_mark;
      alone = ap opens_block first.is ∙ (rw no_asm refl);
    }
