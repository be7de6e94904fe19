-- Walks over endpoints, each of which is raised.
use Rattle.std.proofs.Common.{◌≡◌, ◌<◌, ◌≤◌, ◌+◌, ◌/◌, ◌%◌, ◌⊎◌, inl, inr, ℕ, suc, Bool, true, false, is_some, min, List, [], ◌∷◌, ◌++◌, length, take, Contains, append_assoc, append-nil, refl, ap, sym, ◌∙◌, subst, arith, nat_eq, Less, get_or, slice_index}
use Rattle.std.specs.Map.{keys_of}
use Rattle.std.specs.List.{All, AllByRecursion}
use Rattle.std.specs.List.Sorted.{IsStrictlyIncreasing, IsStrictlySortedBy}
use Rattle.std.specs.Ordering.{nat_cmp}
use Rattle.std.proofs.lemmas.Nat.{le-div}
use Rattle.std.proofs.Math.Nat.{div-mul-le_self}
use Rattle.std.proofs.lemmas.Bool.Decides.{nat_tests, Decides-eqb}
use Rattle.std.proofs.lemmas.List.Elements.{Contains-push, Contains-push_cases, Contains-append_left, Contains-get_or}
use Rattle.std.proofs.lemmas.Map.Keys.{sorted_from_strictly_increasing}
use Rattle.chunked.specs.Maps.{SortedMap, value_at}
use Rattle.filter_table.specs.declared.delivery.Kept.{Kept}
use Rattle.filter_table.specs.Tables.{IsIncreasing}
use Rattle.filter_table.proofs.Lists.{never, in_head, in_tail, first_or_later, map-append'}
use Rattle.filter_group.specs.declared.lockstep.Hit.{Hit}
use Rattle.installed_filters.specs.Counts.{numbers}
use Rattle.installed_filters.specs.Keeping.{raises_of, AreKept, GetsNoted}
use Rattle.filter_table.specs.Raising.{at_endpoint, raised}
use Rattle.installed_filters.proofs.Raised.{kept_alike, kept_none, kept_raised}
use Rattle.filter_table.proofs.Raised.{raised_increases}

-- Entries of a map

yes_eq : (a b : ℕ) → nat_eq a b ≡ true → a ≡ b
yes_eq a b e = (Decides-eqb a b).0 e

eq_yes : (a : ℕ) → nat_eq a a ≡ true
eq_yes a = (Decides-eqb a a).1 refl

module _ {V : Type 0} where
  pub has_entry : (entries : List (ℕ × V)) (key : ℕ) (v : V) → Contains entries (key, v) → is_some (value_at entries key) ≡ true
  has_entry [] key v at = absurd (never _ at)
  has_entry (e ∷ entries) key v at = by_test (nat_eq key e.0) refl (has_entry entries key v)
    where
      by_test : (b : Bool) → nat_eq key e.0 ≡ b → (Contains entries (key, v) → is_some (value_at entries key) ≡ true) → is_some (value_at (e ∷ entries) key) ≡ true
      by_test true t rest = rw t refl
      by_test false t rest = rw t (elim (first_or_later e entries (key, v) at) [
        | inl same ↦ absurd (let k : e.0 ≡ key = ap (λ (x : ℕ × V). x.0) same in let y = subst (λ (n : ℕ). nat_eq key n ≡ true) (sym k) (eq_yes key) in cc)
        | inr later ↦ rest later
      ])

  pub entry_of : (entries : List (ℕ × V)) (key : ℕ) → is_some (value_at entries key) ≡ true → (v : V) × Contains entries (key, v)
  entry_of [] key some = absurd cc
  entry_of (e ∷ entries) key some = by_test (nat_eq key e.0) refl (entry_of entries key)
    where
      by_test : (b : Bool) → nat_eq key e.0 ≡ b → (is_some (value_at entries key) ≡ true → (v : V) × Contains entries (key, v)) → (v : V) × Contains (e ∷ entries) (key, v)
      by_test true t later = (e.1, subst (λ (n : ℕ). Contains (e ∷ entries) (n, e.1)) (sym (yes_eq key e.0 t)) (in_head e entries))
      by_test false t later = let rest = later (rw t at some) in (rest.0, in_tail e entries (key, rest.0) rest.1)

  -- in the order of keys
  all_at : (P : ℕ → Type 0) (done : List (ℕ × V)) (entry : ℕ × V) (rest : List (ℕ × V)) → AllByRecursion P (keys_of (done ++ entry ∷ rest)) → P entry.0
  all_at P [] entry rest h = h.0
  all_at P (d ∷ done) entry rest h = all_at P done entry rest h.1

  before_all : (done : List (ℕ × V)) (entry : ℕ × V) (rest : List (ℕ × V)) (x : ℕ × V) → IsStrictlySortedBy nat_cmp (keys_of (done ++ entry ∷ rest)) → Contains done x → x.0 < entry.0
  unfolding IsStrictlySortedBy
  before_all [] entry rest x h at = absurd (never x at)
  before_all (d ∷ done) entry rest x h at = elim (first_or_later d done x at) [
    | inl same ↦ (let less = all_at (λ (y : ℕ). nat_cmp d.0 y ≡ Less) done entry rest h.0 in
        let k : d.0 ≡ x.0 = ap (λ (y : ℕ × V). y.0) same in
        let lt : d.0 < entry.0 = grind (arith, nat_tests) in omega arith)
    | inr later ↦ before_all done entry rest x h.1 later
  ]

  pub before_head : (entries done : List (ℕ × V)) (entry : ℕ × V) (rest : List (ℕ × V)) (x : ℕ × V) → IsStrictlyIncreasing (keys_of entries) → done ++ entry ∷ rest ≡ entries → Contains done x → x.0 < entry.0
  before_head entries done entry rest x order whole at =
      before_all done entry rest x (subst (λ (es : List (ℕ × V)). IsStrictlySortedBy nat_cmp (keys_of es)) (sym whole) (sorted_from_strictly_increasing (keys_of entries) order)) at

  pub in_middle : (done : List (ℕ × V)) (entry : ℕ × V) (rest : List (ℕ × V)) → Contains (done ++ entry ∷ rest) entry
  in_middle [] entry rest = in_head entry rest
  in_middle (d ∷ done) entry rest = in_tail d (done ++ entry ∷ rest) entry (in_middle done entry rest)

  pub whole_more : (entries done : List (ℕ × V)) (entry : ℕ × V) (rest : List (ℕ × V)) → done ++ entry ∷ rest ≡ entries → (done ++ entry ∷ []) ++ rest ≡ entries
  whole_more entries done entry rest whole = append_assoc done (entry ∷ []) rest ∙ whole

  pub whole_done : (entries done rest : List (ℕ × V)) → rest ≡ [] → done ++ rest ≡ entries → done ≡ entries
  whole_done entries done rest none whole = sym (append_nil done) ∙ (ap (λ (xs : List (ℕ × V)). done ++ xs) (sym none) ∙ whole)
    where
      append_nil : (xs : List (ℕ × V)) → xs ++ [] ≡ xs
      append_nil [] = refl
      append_nil (x ∷ xs) = ap (λ ys. x ∷ ys) (append_nil xs)

  pub length_middle : (entries done : List (ℕ × V)) (entry : ℕ × V) (rest : List (ℕ × V)) → done ++ entry ∷ rest ≡ entries → length done < length entries
  length_middle entries done entry rest whole = subst (λ (es : List (ℕ × V)). length done < length es) whole (longer done)
    where
      longer : (ds : List (ℕ × V)) → length ds < length (ds ++ entry ∷ rest)
      longer [] = omega arith
      longer (d ∷ ds) = let more = longer ds in omega arith

-- The endpoints of one program

pub record Raising (entries rest : List (ℕ × ℕ)) (before now : List Kept) (verdict : ℕ) : Type 0 where
  pub done : List (ℕ × ℕ)
  pub whole : done ++ rest ≡ entries
  pub now_is : now ≡ before ++ raises_of done verdict

pub raising_begins : (entries rest : List (ℕ × ℕ)) (before : List Kept) (verdict : ℕ) → rest ≡ entries → Raising entries rest before before verdict
raising_begins entries rest before verdict all = record { done = []; whole = all; now_is = sym (append-nil before) }

pub raising_more : (entries : List (ℕ × ℕ)) (entry : ℕ × ℕ) (rest : List (ℕ × ℕ)) (before now after : List Kept) (verdict : ℕ) → after ≡ now ++ at_endpoint entry.0 verdict ∷ []
    → Raising entries (entry ∷ rest) before now verdict → Raising entries rest before after verdict
raising_more entries entry rest before now after verdict is h = record {
  done = h.done ++ entry ∷ [];
  whole = whole_more entries h.done entry rest h.whole;
  now_is = is ∙ (ap (λ (ks : List Kept). ks ++ at_endpoint entry.0 verdict ∷ []) h.now_is ∙ (append_assoc before (raises_of h.done verdict) (at_endpoint entry.0 verdict ∷ [])
      ∙ ap (λ (ks : List Kept). before ++ ks) (sym (map-append' (λ (e : ℕ × ℕ). at_endpoint e.0 verdict) h.done (entry ∷ [])))));
}

pub raising_all : (entries rest : List (ℕ × ℕ)) (before now : List Kept) (verdict : ℕ) → rest ≡ [] → Raising entries rest before now verdict → now ≡ before ++ raises_of entries verdict
raising_all entries rest before now verdict none h = h.now_is ∙ ap (λ (es : List (ℕ × ℕ)). before ++ raises_of es verdict) (whole_done entries h.done rest none h.whole)

pub raising_key : (entries : List (ℕ × ℕ)) (entry : ℕ × ℕ) (rest : List (ℕ × ℕ)) (before now : List Kept) (verdict : ℕ) → Raising entries (entry ∷ rest) before now verdict → is_some (value_at entries entry.0) ≡ true
raising_key entries entry rest before now verdict h = has_entry entries entry.0 entry.1 (subst (λ (es : List (ℕ × ℕ)). Contains es entry) h.whole (in_middle h.done entry rest))

-- The endpoints of all programs

numbers_some : 0 < numbers
unfolding numbers
numbers_some = omega arith

module _ {V : Type 0} where
  abbrev pub GetsSo : List (ℕ × V) → List ℕ → ℕ → ℕ → Type 0
  GetsSo done verdicts e v = (x : ℕ × V) × Contains done x × (x.0 / numbers ≡ e) × (slice_index verdicts (x.0 % numbers) ≡ v) × (0 < v)

  pub record Noting (entries rest : List (ℕ × V)) (verdicts : List ℕ) (captured count : ℕ) (kept : List Kept) : Type 0 where
    pub done : List (ℕ × V)
    pub whole : done ++ rest ≡ entries
    pub most : count ≤ length done
    pub kept_so : AreKept (GetsSo done verdicts) captured (take count kept)

  pub noting_begins : (entries rest : List (ℕ × V)) (verdicts : List ℕ) (captured : ℕ) (kept : List Kept) → rest ≡ entries → Noting entries rest verdicts captured 0 kept
  noting_begins entries rest verdicts captured kept all = record {
    done = [];
    whole = all;
    most = omega arith;
    kept_so = kept_none (GetsSo [] verdicts) captured (λ e v g. never g.0 g.1);
  }

  so_far_or : (done : List (ℕ × V)) (entry : ℕ × V) (verdicts : List ℕ) (e v : ℕ) → GetsSo (done ++ entry ∷ []) verdicts e v
      → GetsSo done verdicts e v ⊎ ((entry.0 / numbers ≡ e) × (slice_index verdicts (entry.0 % numbers) ≡ v) × (0 < v))
  so_far_or done entry verdicts e v g = elim (Contains-push_cases done entry g.0 g.1) [
    | inl early ↦ inl (g.0, early, g.2, g.3, g.4)
    | inr same ↦ inr (ap (λ (x : ℕ × V). x.0 / numbers) same ∙ g.2, ap (λ (x : ℕ × V). slice_index verdicts (x.0 % numbers)) same ∙ g.3, g.4)
  ]

  still : (done : List (ℕ × V)) (entry : ℕ × V) (verdicts : List ℕ) (e v : ℕ) → GetsSo done verdicts e v → GetsSo (done ++ entry ∷ []) verdicts e v
  still done entry verdicts e v g = (g.0, Contains-append_left done (entry ∷ []) g.0 g.1, g.2, g.3, g.4)

  -- a program that the packet doesn't pass
  pub noting_past : (entries : List (ℕ × V)) (entry : ℕ × V) (rest : List (ℕ × V)) (verdicts : List ℕ) (captured count : ℕ) (kept : List Kept) → slice_index verdicts (entry.0 % numbers) ≡ 0
      → Noting entries (entry ∷ rest) verdicts captured count kept → Noting entries rest verdicts captured count kept
  noting_past entries entry rest verdicts captured count kept silent h = record {
    done = h.done ++ entry ∷ [];
    whole = whole_more entries h.done entry rest h.whole;
    most = longer (length (h.done ++ entry ∷ [])) (length_push h.done entry);
    kept_so = kept_alike (GetsSo h.done verdicts) (GetsSo (h.done ++ entry ∷ []) verdicts) captured (take count kept) (λ e v g. still h.done entry verdicts e v g)
        (λ e v g. elim (so_far_or h.done entry verdicts e v g) [ inl early ↦ early | inr last ↦ absurd (let z = sym silent ∙ last.1 in let above = last.2 in omega arith) ]) h.kept_so;
  }
    where
      length_push : (xs : List (ℕ × V)) (x : ℕ × V) → length (xs ++ x ∷ []) ≡ length xs + 1
      length_push [] x = refl
      length_push (y ∷ xs) x = ap suc (length_push xs x) ∙ omega arith

      longer : (n : ℕ) → n ≡ length h.done + 1 → count ≤ n
      longer n is = let low = h.most in omega arith

  pub noting_raised : (entries : List (ℕ × V)) (entry : ℕ × V) (rest : List (ℕ × V)) (verdicts : List ℕ) (captured count verdict bytes endpoint more : ℕ) (kept after : List Kept) → slice_index verdicts (entry.0 % numbers) ≡ verdict → 0 < verdict
      → endpoint ≡ entry.0 / numbers → bytes ≡ min verdict captured → more ≤ count + 1 → take more after ≡ raised (take count kept) endpoint bytes
      → Noting entries (entry ∷ rest) verdicts captured count kept → Noting entries rest verdicts captured more after
  noting_raised entries entry rest verdicts captured count verdict bytes endpoint more kept after here above at limit short is h = record {
    done = h.done ++ entry ∷ [];
    whole = whole_more entries h.done entry rest h.whole;
    most = longer (length (h.done ++ entry ∷ [])) (length_push h.done entry);
    kept_so = subst (λ (ks : List Kept). AreKept (GetsSo (h.done ++ entry ∷ []) verdicts) captured ks) (ap (raised (take count kept) endpoint) (sym limit) ∙ sym is)
        (kept_alike (λ e v. GetsSo h.done verdicts e v ⊎ ((e ≡ endpoint) × (v ≡ verdict))) (GetsSo (h.done ++ entry ∷ []) verdicts) captured (raised (take count kept) endpoint (min verdict captured))
        (λ e v g. elim g [
          | inl early ↦ still h.done entry verdicts e v early
          | inr mine ↦ (entry, Contains-push h.done entry, sym (mine.0 ∙ at), here ∙ sym mine.1, subst (λ (n : ℕ). 0 < n) (sym mine.1) above)
        ])
        (λ e v g. elim (so_far_or h.done entry verdicts e v g) [ inl early ↦ inl early | inr last ↦ inr (sym last.0 ∙ sym at, sym last.1 ∙ here) ])
        (kept_raised (GetsSo h.done verdicts) captured (take count kept) endpoint verdict h.kept_so));
  }
    where
      length_push : (xs : List (ℕ × V)) (x : ℕ × V) → length (xs ++ x ∷ []) ≡ length xs + 1
      length_push [] x = refl
      length_push (y ∷ xs) x = ap suc (length_push xs x) ∙ omega arith

      longer : (n : ℕ) → n ≡ length h.done + 1 → more ≤ n
      longer n is = let low = h.most in omega arith

  pub noting_all : (entries rest : List (ℕ × V)) (verdicts : List ℕ) (captured count : ℕ) (kept : List Kept) → rest ≡ [] → Noting entries rest verdicts captured count kept → AreKept (GetsNoted entries verdicts) captured (take count kept)
  noting_all entries rest verdicts captured count kept none h =
      kept_alike (GetsSo h.done verdicts) (GetsNoted entries verdicts) captured (take count kept)
      (λ e v g. (g.0.0, has_entry entries g.0.0 g.0.1 (subst (λ (es : List (ℕ × V)). Contains es g.0) all g.1), g.2, g.3, g.4))
      (λ e v g. (let found = entry_of entries g.0 g.1 in ((g.0, found.0), subst (λ (es : List (ℕ × V)). Contains es (g.0, found.0)) (sym all) found.1, g.2, g.3, g.4)))
      h.kept_so
    where
      all : h.done ≡ entries
      all = whole_done entries h.done rest none h.whole

  pub noting_key : (entries : List (ℕ × V)) (entry : ℕ × V) (rest : List (ℕ × V)) (verdicts : List ℕ) (captured count : ℕ) (kept : List Kept) → Noting entries (entry ∷ rest) verdicts captured count kept → is_some (value_at entries entry.0) ≡ true
  noting_key entries entry rest verdicts captured count kept h =
      has_entry entries entry.0 entry.1 (subst (λ (es : List (ℕ × V)). Contains es entry) h.whole (in_middle h.done entry rest))

  pub noting_room : (entries : List (ℕ × V)) (entry : ℕ × V) (rest : List (ℕ × V)) (verdicts : List ℕ) (captured count : ℕ) (kept : List Kept) → Noting entries (entry ∷ rest) verdicts captured count kept → count < length entries
  noting_room entries entry rest verdicts captured count kept h = let most = h.most in let short = length_middle entries h.done entry rest h.whole in omega arith

  -- those that got the packet so far are of no later endpoint
  pub noting_last : (entries : List (ℕ × V)) (entry : ℕ × V) (rest : List (ℕ × V)) (verdicts : List ℕ) (captured count : ℕ) (kept : List Kept) → IsStrictlyIncreasing (keys_of entries)
      → Noting entries (entry ∷ rest) verdicts captured count kept → All (λ (k : Kept). k.endpoint ≤ entry.0 / numbers) (take count kept)
  noting_last entries entry rest verdicts captured count kept order h k d lt =
      let one = get_or (take count kept) k d in
      let gets = ((h.kept_so.each one.endpoint one.kept).0 (Contains-get_or (take count kept) k d lt)).is_one in
      let before = before_head entries h.done entry rest gets.0 order h.whole gets.1 in
      let low = div-mul-le_self gets.0.0 numbers in
      let most = le-div (gets.0.0 / numbers) entry.0 numbers numbers_some (omega arith) in
      let is = gets.2 in
      omega arith
