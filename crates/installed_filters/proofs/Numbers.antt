-- Programs with numbers that come and go.
use Rattle.std.proofs.Common.{◌≡◌, ◌≢◌, ◌<◌, ◌+◌, ◌-◌, ◌⊎◌, ◌↔◌, inl, inr, ℕ, zero, suc, Some, List, [], ◌∷◌, ◌++◌, length, map, get_or, slice_get, refl, ap, sym, ◌∙◌, subst, arith}
use Rattle.std.proofs.lemmas.Bool.{cases_eq}
use Rattle.std.proofs.lemmas.Bool.Decides.{nat_tests}
use Rattle.std.proofs.lemmas.Option.{slice_get-get_or, slice_get_within, get_or_from_slice_get}
use Rattle.bpf_insn.specs.declared.insn.Insn.{Insn}
use Rattle.bpf_insn.specs.Machine.{Packet}
use Rattle.filter_vm.specs.Standing.{EndsWith}
use Rattle.filter_group.specs.declared.lockstep.Hit.{Hit}
use Rattle.filter_group.specs.Programs.{AreWithout, place_before}
use Rattle.filter_group.specs.Together.{AreHits}
use Rattle.filter_group.proofs.Edits.{at_contains, contains_at}
use Rattle.filter_group.proofs.Sides.{one_thing}
use Rattle.installed_filters.specs.Numbering.{Numbering, AreNumbered, Has, IsFresh, AreHitsBy, numbered_hit}

-- Lists

last : {A : Type 0} (xs : List A) (x : A) → slice_get (xs ++ x ∷ []) (length xs) ≡ Some x
last [] x = refl
last (y ∷ xs) x = last xs x

split : {A : Type 0} (xs : List A) (y : A) (i : ℕ) (x : A) → slice_get (xs ++ y ∷ []) i ≡ Some x → (slice_get xs i ≡ Some x) ⊎ ((i ≡ length xs) × (y ≡ x))
split [] y zero x h = inr (refl, cc)
split [] y (suc i) x h = absurd cc
split (z ∷ xs) y zero x h = inl h
split (z ∷ xs) y (suc i) x h = by_rest (split xs y i x h)
  where
    by_rest : (slice_get xs i ≡ Some x) ⊎ ((i ≡ length xs) × (y ≡ x)) → (slice_get (z ∷ xs) (suc i) ≡ Some x) ⊎ ((suc i ≡ length (z ∷ xs)) × (y ≡ x))
    by_rest (inl e) = inl e
    by_rest (inr e) = inr (ap suc e.0, e.1)

length_push : {A : Type 0} (xs : List A) (x : A) → length (xs ++ x ∷ []) ≡ suc (length xs)
length_push [] x = refl
length_push (y ∷ xs) x = ap suc (length_push xs x)

get_at : {A : Type 0} (xs : List A) (i : ℕ) → i < length xs → (x : A) × (slice_get xs i ≡ Some x)
get_at [] i lt = absurd (omega arith)
get_at (x ∷ xs) zero lt = (x, refl)
get_at (x ∷ xs) (suc i) lt = get_at xs i (omega arith)

-- items that differ from a new one, which differ from each other
pushed_apart : {A : Type 0} (xs : List A) (y : A) → ((i j : ℕ) (x : A) → slice_get xs i ≡ Some x → slice_get xs j ≡ Some x → i ≡ j) → ((i : ℕ) → slice_get xs i ≡ Some y → ⊥)
    → (i j : ℕ) (x : A) → slice_get (xs ++ y ∷ []) i ≡ Some x → slice_get (xs ++ y ∷ []) j ≡ Some x → i ≡ j
pushed_apart {A = A} xs y apart fresh i j x at at' = both (split xs y i x at) (split xs y j x at')
  where
    both : (slice_get xs i ≡ Some x) ⊎ ((i ≡ length xs) × (y ≡ x)) → (slice_get xs j ≡ Some x) ⊎ ((j ≡ length xs) × (y ≡ x)) → i ≡ j
    both (inl a) (inl b) = apart i j x a b
    both (inl a) (inr b) = absurd (fresh i (a ∙ ap (λ (z : A). Some z) (sym b.1)))
    both (inr a) (inl b) = absurd (fresh j (b ∙ ap (λ (z : A). Some z) (sym a.1)))
    both (inr a) (inr b) = a.0 ∙ sym b.0

-- One more

pub numbered_none : (n : Numbering) → n.programs ≡ [] → n.numbers ≡ [] → AreNumbered n
numbered_none n programs numbers = record {
  lengths = ap (length {A = ℕ}) numbers ∙ sym (ap (length {A = List Insn}) programs);
  distinct = λ i j p at. absurd (let e = sym (ap (λ (ps : List (List Insn)). slice_get ps i) programs) ∙ at in cc);
  apart = λ i j m at. absurd (let e = sym (ap (λ (ms : List ℕ). slice_get ms i) numbers) ∙ at in cc);
}

pub numbered_more : (n : Numbering) (program : List Insn) (number : ℕ) → IsFresh n number program → AreNumbered n → AreNumbered (record { programs = n.programs ++ program ∷ []; numbers = n.numbers ++ number ∷ [] })
numbered_more n program number fresh h = record {
  lengths = length_push n.numbers number ∙ (ap suc h.lengths ∙ sym (length_push n.programs program));
  distinct = pushed_apart n.programs program h.distinct (λ i at. (let m = get_at n.numbers i (let low = slice_get_within n.programs i program at in let long = h.lengths in omega arith) in fresh.program_fresh m.0 (i, at, m.1)));
  apart = λ i j m at at'. pushed_apart n.numbers number h.apart (λ k at. (let p = get_at n.programs k (let low = slice_get_within n.numbers k number at in let long = h.lengths in omega arith) in fresh.number_fresh p.0 (k, p.1, at))) i j m at at';
}

front : {A : Type 0} (xs : List A) (y : A) (i : ℕ) (x : A) → slice_get xs i ≡ Some x → slice_get (xs ++ y ∷ []) i ≡ Some x
front [] y i x at = absurd cc
front (z ∷ xs) y zero x at = at
front (z ∷ xs) y (suc i) x at = front xs y i x at

pub has_with : (old new : Numbering) (number : ℕ) (program : List Insn) → length old.numbers ≡ length old.programs → new ≡ record { programs = old.programs ++ program ∷ []; numbers = old.numbers ++ number ∷ [] } → (m : ℕ) (p : List Insn) → Has new m p ↔ (Has old m p ⊎ ((m ≡ number) × (p ≡ program)))
has_with old new number program long is m p = subst (λ (n : Numbering). Has n m p ↔ (Has old m p ⊎ ((m ≡ number) × (p ≡ program)))) (sym is) (to, back)
  where
    both : (i : ℕ) → (slice_get old.programs i ≡ Some p) ⊎ ((i ≡ length old.programs) × (program ≡ p)) → (slice_get old.numbers i ≡ Some m) ⊎ ((i ≡ length old.numbers) × (number ≡ m)) → Has old m p ⊎ ((m ≡ number) × (p ≡ program))
    both i (inl a) (inl b) = inl (i, a, b)
    both i (inl a) (inr b) = absurd (let low = slice_get_within old.programs i p a in let end = b.0 in omega arith)
    both i (inr a) (inl b) = absurd (let low = slice_get_within old.numbers i m b in let end = a.0 in omega arith)
    both i (inr a) (inr b) = inr (sym b.1, sym a.1)

    to : Has (record { programs = old.programs ++ program ∷ []; numbers = old.numbers ++ number ∷ [] }) m p → Has old m p ⊎ ((m ≡ number) × (p ≡ program))
    to h = both h.0 (split old.programs program h.0 p h.1) (split old.numbers number h.0 m h.2)

    back : Has old m p ⊎ ((m ≡ number) × (p ≡ program)) → Has (record { programs = old.programs ++ program ∷ []; numbers = old.numbers ++ number ∷ [] }) m p
    back (inl h) = (h.0, front old.programs program h.0 p h.1, front old.numbers number h.0 m h.2)
    back (inr same) = (
      length old.programs,
      last old.programs program ∙ ap (λ (x : List Insn). Some x) (sym same.1),
      subst (λ (k : ℕ). slice_get (old.numbers ++ number ∷ []) k ≡ Some m) long (last old.numbers number ∙ ap (λ (x : ℕ). Some x) (sym same.0)),
    )

-- One less

before_taken : (taken last place : ℕ) → place ≡ taken → place_before taken last place ≡ last
before_taken taken last place is = grind (arith, nat_tests)

before_other : (taken last place : ℕ) → (place ≡ taken → ⊥) → place_before taken last place ≡ place
before_other taken last place apart = grind (arith, nat_tests)

module _ (n : Numbering) (taken : ℕ) (programs : List (List Insn)) (numbers : List ℕ) (h : AreNumbered n) (w : AreWithout n.programs taken programs) (inside : taken < length n.programs)
    (moved : taken + 1 < length n.numbers → get_or numbers taken 0 ≡ get_or n.numbers (length n.numbers - 1) 0) (same : (k : ℕ) → k ≢ taken → k + 1 < length n.numbers → get_or numbers k 0 ≡ get_or n.numbers k 0)
    (shorter : length numbers + 1 ≡ length n.numbers) where
  abbrev left : Numbering
  left = record { programs = programs; numbers = numbers }

  before : ℕ → ℕ
  before = place_before taken (length programs)

  long : length numbers ≡ length programs
  long = let a = h.lengths in let b = w.count in omega arith

  -- the number at a place is the one that was at the place before
  number_before : (k : ℕ) → k < length numbers → slice_get numbers k ≡ slice_get n.numbers (place_before taken (length programs) k)
  number_before k low = elim (cases_eq k taken) [
    | inl here ↦
        let e = before_taken taken (length programs) k here in
        let last_is : length programs ≡ length n.numbers - 1 = omega (arith, long, shorter) in
        slice_get-get_or numbers k 0 low
        ∙ (ap (λ (x : ℕ). Some x) (ap (λ (j : ℕ). get_or numbers j 0) here ∙ moved (omega (arith, shorter)))
        ∙ (sym (slice_get-get_or n.numbers (length n.numbers - 1) 0 (omega (arith, shorter))) ∙ ap (slice_get n.numbers) (sym (e ∙ last_is))))
    | inr other ↦
        let e = before_other taken (length programs) k other in
        slice_get-get_or numbers k 0 low
        ∙ (ap (λ (x : ℕ). Some x) (same k other (omega (arith, shorter))) ∙ (sym (slice_get-get_or n.numbers k 0 (omega (arith, shorter))) ∙ ap (slice_get n.numbers) (sym e)))
  ]

  before_same : (i j : ℕ) → i < length programs → j < length programs → place_before taken (length programs) i ≡ place_before taken (length programs) j → i ≡ j
  before_same i j low_i low_j same = elim (cases_eq i taken) [
    | inl at ↦ elim (cases_eq j taken) [
      | inl at' ↦ at ∙ sym at'
      | inr off ↦ absurd (let a = before_taken taken (length programs) i at in let b = before_other taken (length programs) j off in omega arith)
    ]
    | inr off ↦ elim (cases_eq j taken) [
      | inl at' ↦ absurd (let a = before_other taken (length programs) i off in let b = before_taken taken (length programs) j at' in omega arith)
      | inr off' ↦ let a = before_other taken (length programs) i off in let b = before_other taken (length programs) j off' in omega arith
    ]
  ]

  pub numbered_less : AreNumbered (record { programs = programs; numbers = numbers })
  numbered_less = record {
    lengths = long;
    distinct = λ i j p at at'. before_same i j (slice_get_within programs i p at) (slice_get_within programs j p at')
        (h.distinct (place_before taken (length programs) i) (place_before taken (length programs) j) p (w.each i p at) (w.each j p at'));
    apart = λ i j m at at'.
        let low = slice_get_within numbers i m at in
        let low' = slice_get_within numbers j m at' in
        before_same i j (omega (arith, long)) (omega (arith, long))
        (h.apart (place_before taken (length programs) i) (place_before taken (length programs) j) m (sym (number_before i low) ∙ at) (sym (number_before j low') ∙ at'));
  }

  -- what is left was there, and is not the one that was taken
  was : (program : List Insn) → slice_get n.programs taken ≡ Some program → (number : ℕ) (other : List Insn) → Has (record { programs = programs; numbers = numbers }) number other → Has n number other × (other ≡ program → ⊥)
  was program at number other x =
      let low = slice_get_within programs x.0 other x.1 in (
        (place_before taken (length programs) x.0, w.each x.0 other x.1, sym (number_before x.0 (omega (arith, long))) ∙ x.2),
        λ is. (let here = h.distinct (place_before taken (length programs) x.0) taken program (w.each x.0 other x.1 ∙ ap (λ (p : List Insn). Some p) is) at in
            elim (cases_eq x.0 taken) [
              | inl mine ↦ (let a = before_taken taken (length programs) x.0 mine in let b = w.count in omega arith)
              | inr off ↦ (let a = before_other taken (length programs) x.0 off in off (sym a ∙ here))
            ]),
      )

  stays : (program : List Insn) → slice_get n.programs taken ≡ Some program → (number : ℕ) (other : List Insn) → Has n number other × (other ≡ program → ⊥) → Has (record { programs = programs; numbers = numbers }) number other
  stays program at number other x =
      let i = x.0.0 in
      let low = slice_get_within n.programs i other x.0.1 in
      let apart : i ≡ taken → ⊥ = λ here. x.1 (one_thing n.programs taken other program (subst (λ (k : ℕ). slice_get n.programs k ≡ Some other) here x.0.1) at) in
      elim (cases_eq i (length programs)) [
        | inl end ↦
            let a = before_taken taken (length programs) taken refl in
            let low' : taken < length programs = let b = w.count in elim (cases_eq taken (length programs)) [ inl clash ↦ absurd (apart (end ∙ sym clash)) | inr off ↦ omega arith ] in
            (taken, at_place taken i other low' (a ∙ sym end) x.0.1, number_at taken i number low' (a ∙ sym end) x.0.2)
        | inr off ↦
            let a = before_other taken (length programs) i apart in
            let low' : i < length programs = let b = w.count in omega arith in
            (i, at_place i i other low' a x.0.1, number_at i i number low' a x.0.2)
      ]
    where
      at_place : (k i : ℕ) (p : List Insn) → k < length programs → place_before taken (length programs) k ≡ i → slice_get n.programs i ≡ Some p → slice_get programs k ≡ Some p
      at_place k i p low e there =
          let q = get_at programs k low in
          q.1 ∙ (sym (w.each k q.0 q.1) ∙ (ap (slice_get n.programs) e ∙ there))

      number_at : (k i m : ℕ) → k < length programs → place_before taken (length programs) k ≡ i → slice_get n.numbers i ≡ Some m → slice_get numbers k ≡ Some m
      number_at k i m low e there = number_before k (omega (arith, long)) ∙ (ap (slice_get n.numbers) e ∙ there)

  pub has_left : (program : List Insn) → slice_get n.programs taken ≡ Some program → (number : ℕ) (other : List Insn) → Has (record { programs = programs; numbers = numbers }) number other ↔ (Has n number other × (other ≡ program → ⊥))
  has_left program at number other = (was program at number other, stays program at number other)

-- Hits

pub hits_numbered : (n : Numbering) (packet : Packet) (hits hits' : List Hit) → AreNumbered n → hits' ≡ map (numbered_hit n.numbers) hits → AreHits n.programs packet (length n.programs) hits → AreHitsBy n packet hits'
hits_numbered n packet hits hits' h is are = subst (AreHitsBy n packet) (sym is) (record {
  each = λ i hit at.
      let o = mapped hits i hit at in
      let e = are.each o.0 (contains_at hits i o.0 o.1) in
      let p = get_at n.programs o.0.member e.0 in
      let long = h.lengths in
      let m = slice_get-get_or n.numbers o.0.member 0 (let low = e.0 in omega arith) in
      let number : get_or n.numbers o.0.member 0 ≡ hit.member = ap (λ (x : Hit). x.member) o.2 in
      let verdict : o.0.verdict ≡ hit.verdict = ap (λ (x : Hit). x.verdict) o.2 in
      (subst (λ (v : ℕ). 0 < v) verdict e.1, (p.0, (o.0.member, p.1, m ∙ ap (λ (x : ℕ). Some x) number), subst (λ (v : ℕ). EndsWith p.0 packet v) verdict (e.2 p.0 p.1)));
  others = λ number program x. elim (are.others x.0 program (slice_get_within n.programs x.0 program x.1) x.1) [
    | inl found ↦
        let there = at_contains hits found.0 found.1 in
        let read : get_or n.numbers found.0.member 0 ≡ number = ap (λ (k : ℕ). get_or n.numbers k 0) found.2 ∙ get_or_from_slice_get n.numbers x.0 number 0 x.2 in
        inl (numbered_hit n.numbers found.0, contains_at (map (numbered_hit n.numbers) hits) there.0 (numbered_hit n.numbers found.0) (map-get hits there.0 found.0 there.1), read)
    | inr silent ↦ inr silent
  ];
  once = λ i j a b at at' same.
      let o = mapped hits i a at in
      let o' = mapped hits j b at' in
      let e = are.each o.0 (contains_at hits i o.0 o.1) in
      let e' = are.each o'.0 (contains_at hits j o'.0 o'.1) in
      let long = h.lengths in
      let m = slice_get-get_or n.numbers o.0.member 0 (let low = e.0 in omega arith) in
      let m' = slice_get-get_or n.numbers o'.0.member 0 (let low = e'.0 in omega arith) in
      let number : get_or n.numbers o.0.member 0 ≡ get_or n.numbers o'.0.member 0 = ap (λ (x : Hit). x.member) o.2 ∙ (same ∙ sym (ap (λ (x : Hit). x.member) o'.2)) in
      let places = h.apart o.0.member o'.0.member (get_or n.numbers o'.0.member 0) (m ∙ ap (λ (x : ℕ). Some x) number) m' in
      are.once i j o.0 o'.0 o.1 o'.1 places;
})
  where
    mapped : (hs : List Hit) (i : ℕ) (hit : Hit) → slice_get (map (numbered_hit n.numbers) hs) i ≡ Some hit → (x : Hit) × (slice_get hs i ≡ Some x) × (numbered_hit n.numbers x ≡ hit)
    mapped [] i hit at = absurd cc
    mapped (x ∷ hs) zero hit at = (x, refl, cc)
    mapped (x ∷ hs) (suc i) hit at = mapped hs i hit at

    map-get : (hs : List Hit) (i : ℕ) (x : Hit) → slice_get hs i ≡ Some x → slice_get (map (numbered_hit n.numbers) hs) i ≡ Some (numbered_hit n.numbers x)
    map-get [] i x at = absurd cc
    map-get (y ∷ hs) zero x at = ap (λ (z : Hit). Some (numbered_hit n.numbers z)) (one_thing (y ∷ hs) 0 y x refl at)
    map-get (y ∷ hs) (suc i) x at = map-get hs i x at
