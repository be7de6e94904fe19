-- The pieces of a text, one after another.
use Rattle.std.proofs.Common.{◌≡◌, ◌≢◌, ℕ, zero, suc, ◌+◌, ◌≤◌, ◌<◌, List, [], ◌∷◌, ◌++◌, length, take, get_or, arith, refl, ap, sym, ◌∙◌, inl, inr, append_assoc, length-append, ◌⊎◌}
use Rattle.std.specs.List.{AllZip, All}
use Rattle.std.proofs.lemmas.List.{append-nil}
use Rattle.std.proofs.lemmas.List.Elements.{All-append}
use Rattle.std.proofs.Math.Seq.{take-append_seam}
use Rattle.bpf_insn.specs.declared.ddd.TextFault.TheVariants.{BadNumber}
use Rattle.bpf_insn.specs.declared.insn.Insn.{Insn}
use Rattle.bpf_insn.specs.Ddd.{Ddd, Faults, cuts, IsTrimmed, SpellsInsn, IsInsn}
use Rattle.bpf_insn.specs.Parts.{SpellsFirst, IsBadAt, IsCountedText}

-- cut is a front, whose pieces are counted, and the rest
pub record CountSoFar (cut left : List (List (List ℕ))) (place count : ℕ) : Type 0 where
  pub front : List (List (List ℕ))
  pub pieces : List (List (List ℕ))
  pub parts : cut ≡ front ++ left
  pub at : length front ≡ place
  pub trimmed : IsTrimmed front pieces
  pub number : length pieces ≡ count

All-none : All (λ (words : List (List ℕ)). words ≡ []) []
All-none = λ k d within. absurd (omega arith)

All-one : (w : List (List ℕ)) → w ≡ [] → All (λ (words : List (List ℕ)). words ≡ []) (w ∷ [])
All-one w e = λ k d within. let zero_at : k ≡ 0 = omega arith in rw zero_at e

pub count_start : (cut : List (List (List ℕ))) → CountSoFar cut cut 0 0
count_start cut = record { front = []; pieces = []; parts = refl; at = refl; trimmed = record { gap = []; whole = refl; empty = All-none; full = inl refl }; number = refl }

-- a piece that is not empty
pub count_full : (cut left rest : List (List (List ℕ))) (w : List (List ℕ)) (place count : ℕ) → CountSoFar cut left place count → left ≡ w ∷ rest → w ≢ [] → CountSoFar cut rest (place + 1) (place + 1)
count_full cut left rest w place count so first full = record {
  front = so.front ++ w ∷ [];
  pieces = so.front ++ w ∷ [];
  parts = so.parts ∙ ap (λ t. so.front ++ t) first ∙ sym (append_assoc so.front (w ∷ []) rest);
  at = omega (arith, length-append so.front (w ∷ []), so.at);
  trimmed = record { gap = []; whole = sym (append-nil (so.front ++ w ∷ [])); empty = All-none; full = inr (so.front, w, refl, full) };
  number = omega (arith, length-append so.front (w ∷ []), so.at);
}

-- an empty piece
pub count_empty : (cut left rest : List (List (List ℕ))) (w : List (List ℕ)) (place count : ℕ) → CountSoFar cut left place count → left ≡ w ∷ rest → w ≡ [] → CountSoFar cut rest (place + 1) count
count_empty cut left rest w place count so first empty = record {
  front = so.front ++ w ∷ [];
  pieces = so.pieces;
  parts = so.parts ∙ ap (λ t. so.front ++ t) first ∙ sym (append_assoc so.front (w ∷ []) rest);
  at = omega (arith, length-append so.front (w ∷ []), so.at);
  trimmed = record {
    gap = so.trimmed.gap ++ w ∷ [];
    whole = ap (λ t. t ++ w ∷ []) so.trimmed.whole ∙ append_assoc so.pieces so.trimmed.gap (w ∷ []);
    empty = All-append (λ words. words ≡ []) so.trimmed.gap (w ∷ []) so.trimmed.empty (All-one w empty);
    full = so.trimmed.full;
  };
  number = so.number;
}

-- a piece of either kind
pub count_next : (cut left rest : List (List (List ℕ))) (w : List (List ℕ)) (place count count' : ℕ) → CountSoFar cut left place count → left ≡ w ∷ rest
    → ((w ≡ []) × (count' ≡ count)) ⊎ ((w ≢ []) × (count' ≡ place + 1)) → CountSoFar cut rest (place + 1) count'
count_next cut left rest w place count count' so first kind = elim kind [
  | inl k ↦ rw k.1 (count_empty cut left rest w place count so first k.0)
  | inr k ↦ rw k.1 (count_full cut left rest w place count so first k.0)
]

-- with no piece left, all are counted
pub count_end : (cut left : List (List (List ℕ))) (place count : ℕ) → CountSoFar cut left place count → left ≡ [] → (pieces : List (List (List ℕ))) × IsTrimmed cut pieces × (length pieces ≡ count)
count_end cut left place count so none =
    let e : cut ≡ so.front = so.parts ∙ ap (λ t. so.front ++ t) none ∙ append-nil so.front in
    (so.pieces, record { gap = so.trimmed.gap; whole = e ∙ so.trimmed.whole; empty = so.trimmed.empty; full = so.trimmed.full }, so.number)

-- instructions so far
AllZip-push : {A B : Type 0} (R : A → B → Type 0) (xs : List A) (ys : List B) (x : A) (y : B) → AllZip R xs ys → R x y → AllZip R (xs ++ x ∷ []) (ys ++ y ∷ [])
AllZip-push R [] [] x y each last = (last, tt)
AllZip-push R [] (b ∷ ys) x y each last = absurd each
AllZip-push R (a ∷ xs) [] x y each last = absurd each
AllZip-push R (a ∷ xs) (b ∷ ys) x y each last = (each.0, AllZip-push R xs ys x y each.1 last)

-- what is paired with an instruction spells one
pub spelled_at : (good : List (List (List ℕ))) (program : List Insn) → AllZip SpellsInsn good program → (k : ℕ) (d : List (List ℕ)) → k < length good → IsInsn (get_or good k d)
spelled_at [] program each k d within = absurd (omega arith)
spelled_at (w ∷ good) [] each k d within = absurd each
spelled_at (w ∷ good) (i ∷ program) each zero d within = (i, each.0)
spelled_at (w ∷ good) (i ∷ program) each (suc k) d within = spelled_at good program each.1 k d (omega arith)

-- all is pieces that spell the program so far, and the rest
pub record FirstSoFar (all left : List (List (List ℕ))) (place : ℕ) (program : List Insn) : Type 0 where
  pub good : List (List (List ℕ))
  pub parts : all ≡ good ++ left
  pub at : length good ≡ place
  pub each : AllZip SpellsInsn good program

pub first_next : (all left rest : List (List (List ℕ))) (w : List (List ℕ)) (place : ℕ) (program program' : List Insn) (i : Insn) → FirstSoFar all left place program → left ≡ w ∷ rest → SpellsInsn w i → program' ≡ program ++ i ∷ [] → FirstSoFar all rest (place + 1) program'
first_next all left rest w place program program' i so first one e = record {
  good = so.good ++ w ∷ [];
  parts = so.parts ∙ ap (λ t. so.good ++ t) first ∙ sym (append_assoc so.good (w ∷ []) rest);
  at = omega (arith, length-append so.good (w ∷ []), so.at);
  each = rw e (AllZip-push SpellsInsn so.good program w i so.each one);
}

pub first_bad : (all left rest : List (List (List ℕ))) (w : List (List ℕ)) (place count : ℕ) (program : List Insn) → FirstSoFar all left place program → left ≡ w ∷ rest → ¬ (IsInsn w) → place < count → IsBadAt all count (place + 1)
first_bad all left rest w place count program so first none within = record {
  good = so.good;
  bad = w;
  more = rest;
  parts = so.parts ∙ ap (λ t. so.good ++ t) first;
  at = ap (λ n. n + 1) so.at;
  within = omega arith;
  before = spelled_at so.good program so.each;
  here = none;
}

-- while fewer pieces than there are were read, one is left
pub first_left : (all left : List (List (List ℕ))) (place count : ℕ) (program : List Insn) → FirstSoFar all left place program → place < count → count ≤ length all → left ≢ []
first_left all left place count program so low high none = absurd (omega (arith, so.at, ap length (so.parts ∙ ap (λ t. so.good ++ t) none ∙ append-nil so.good)))

-- of two cuts of one list, the fronts that are as long are the same
pub fronts_same : (xs ys more rest : List (List (List ℕ))) → xs ++ more ≡ ys ++ rest → length xs ≡ length ys → xs ≡ ys
fronts_same xs ys more rest e same = sym (take-append_seam xs more) ∙ ap (take (length xs)) e ∙ ap (λ n. take n (ys ++ rest)) same ∙ take-append_seam ys rest

-- and a front that is shorter goes on into the longer one
front_shorter : (xs ys : List (List (List ℕ))) (w : List (List ℕ)) (more rest : List (List (List ℕ))) → xs ++ w ∷ more ≡ ys ++ rest → length xs < length ys → (left : List (List (List ℕ))) × (ys ≡ xs ++ w ∷ left)
front_shorter [] [] w more rest e short = absurd (omega arith)
front_shorter [] (y ∷ ys) w more rest e short = (ys, cc)
front_shorter (x ∷ xs) [] w more rest e short = absurd (omega arith)
front_shorter (x ∷ xs) (y ∷ ys) w more rest e short =
    let tails : xs ++ w ∷ more ≡ ys ++ rest = cc in
    let found = front_shorter xs ys w more rest tails (omega arith) in
    (found.0, ap (λ t. y ∷ t) found.1 ∙ cc)

-- a text whose pieces were counted has a first piece, where the count isn't 0
pub record HasFirst (pieces rest : List (List (List ℕ))) (first : List (List ℕ)) : Type 0 where
  pub others : List (List (List ℕ))
  pub gap : List (List (List ℕ))
  pub begins : pieces ≡ first ∷ others
  pub goes_on : rest ≡ others ++ gap

pub has_first : (cut pieces rest : List (List (List ℕ))) (first : List (List ℕ)) → IsTrimmed cut pieces → cut ≡ first ∷ rest → 0 < length pieces → HasFirst pieces rest first
has_first cut [] rest first trimmed e some = absurd (omega arith)
has_first cut (p ∷ ps) rest first trimmed e some = record {
  others = ps;
  gap = trimmed.gap;
  begins = let w : cut ≡ p ∷ (ps ++ trimmed.gap) = trimmed.whole in cc;
  goes_on = let w : cut ≡ p ∷ (ps ++ trimmed.gap) = trimmed.whole in cc;
}

-- paired lists are as long
pub as_long : {A B : Type 0} (R : A → B → Type 0) (xs : List A) (ys : List B) → AllZip R xs ys → length xs ≡ length ys
as_long R [] [] each = refl
as_long R [] (b ∷ ys) each = absurd each
as_long R (a ∷ xs) [] each = absurd each
as_long R (a ∷ xs) (b ∷ ys) each = ap suc (as_long R xs ys each.1)

-- what was read is what the text spells
pub spelled : (text : List ℕ) (n : ℕ) (rest : List (List (List ℕ))) (program : List Insn) → IsCountedText text n rest → SpellsFirst rest n program → Ddd text program
spelled text n rest program so read =
    let has = has_first (cuts text) so.pieces rest so.first so.trimmed so.begins (omega (arith, so.counted.number)) in
    let same : read.good ≡ has.others = fronts_same read.good has.others read.left has.gap (sym read.parts ∙ has.goes_on) (omega (arith, read.at, ap length has.begins, so.counted.number)) in
    let each : AllZip SpellsInsn has.others program = rw same at read.each in
    let long : length program ≡ n = sym (as_long SpellsInsn read.good program read.each) ∙ read.at in
    record {
      first = so.first;
      rest = has.others;
      pieces = rw has.begins at so.trimmed;
      count = rw (has.begins, sym long) at so.counted.count;
      short = omega (arith, so.counted.short);
      each = each;
    }

pub fault_at : (text : List ℕ) (n : ℕ) (rest : List (List (List ℕ))) (place : ℕ) → IsCountedText text n rest → IsBadAt rest n place → Faults text (BadNumber place)
fault_at text n rest place so bad =
    let has = has_first (cuts text) so.pieces rest so.first so.trimmed so.begins (omega (arith, so.counted.number)) in
    let found = front_shorter bad.good has.others bad.bad bad.more has.gap (sym bad.parts ∙ has.goes_on) (omega (arith, bad.at, bad.within, ap length has.begins, so.counted.number)) in (
      so.pieces,
      so.trimmed,
      inr (
        n,
        so.counted,
        record {
          first = so.first;
          good = bad.good;
          bad = bad.bad;
          more = found.0;
          parts = has.begins ∙ ap (λ t. so.first ∷ t) found.1;
          at = bad.at;
          before = bad.before;
          here = bad.here;
        },
      ),
    )
