-- The order of programs, and their places in it.
use Rattle.std.proofs.Common.{◌-◌, ◌≡◌, ◌<◌, ◌≤◌, ◌+◌, ◌⊎◌, inl, inr, ℕ, Bool, true, false, zero, suc, List, [], ◌∷◌, ◌++◌, length, map, drop, min, Some, slice_get, slice_set, get_or, refl, ap, sym, ◌∙◌, subst, arith}
use Rattle.std.specs.List.{insert, remove}
use Rattle.std.specs.Cmp.{IsTotalOrder}
use Rattle.std.specs.Cmp.Lexicographic.{slice_cmp}
use Rattle.std.specs.declared.cmp.Ordering.{Ordering}
use Rattle.std.specs.declared.cmp.Ordering.TheVariants.{Less, Equal, Greater}
use Rattle.std.specs.Ordering.{MatchOrdering, nat_cmp, ordering_then, ordering_reverse, is_gt, is_ne, is_lt}
use Rattle.std.proofs.lemmas.Cmp.{ranked, tied_itself, nat_cmp_total, on_total, then_total, lists_total}
use Rattle.std.proofs.lemmas.Bool.{cases_lt, cases_eq}
use Rattle.std.proofs.lemmas.Bool.Decides.{nat_tests}
use Rattle.std.proofs.lemmas.List.{length_push, length-drop}
use Rattle.std.proofs.lemmas.Option.{slice_get_within, slice_get-get_or}
use Rattle.bpf_insn.specs.declared.insn.Insn.{Insn}
use Rattle.filter_group.specs.Order.{IsOrder, IsRank, constant_cmp, place_once_taken, program_cmp, shape_cmp, shape_constant}
use Rattle.filter_group.specs.Programs.{AreWithout, IsAmong, place_before}
use Rattle.filter_group.proofs.Edits.{insert_below, insert_here, insert_above, remove_below, remove_above, IsPut, put_before, put_it, put_after, is_put, IsLeft, left_before, left_after, is_left, once_put, pushed_below, pushed_here}
use Rattle.filter_group.proofs.Indexed.{is_mapped, map_at, map_same, mapped, set_mapped}
use Rattle.filter_group.proofs.Sides.{one_thing}

-- What an order says

then_equal : (a b : Ordering) → ordering_then a b ≡ Equal → (a ≡ Equal) × (b ≡ Equal)
then_equal Less b e = absurd cc
then_equal Equal b e = (refl, e)
then_equal Greater b e = absurd cc

nat_same : (a b : ℕ) → nat_cmp a b ≡ Equal → a ≡ b
nat_same a b e = ranked a b Equal (sym e)

shape_total : IsTotalOrder shape_cmp
shape_total = then_total (on_total (λ (i : Insn). i.code) nat_cmp_total) (then_total (on_total (λ (i : Insn). i.jt) nat_cmp_total)
    (then_total (on_total (λ (i : Insn). i.jf) nat_cmp_total) (on_total shape_constant nat_cmp_total)))

constant_total : IsTotalOrder constant_cmp
constant_total = on_total (λ (i : Insn). i.k) nat_cmp_total

pub program_total : IsTotalOrder program_cmp
program_total = then_total (lists_total shape_total) (lists_total constant_total)

insn_same : (a b : Insn) → shape_cmp a b ≡ Equal → constant_cmp a b ≡ Equal → a ≡ b
insn_same a b shape constant = λ j. record { code = code j; jt = jt j; jf = jf j; k = k j }
  where
    after_jf : Ordering
    after_jf = ordering_then (nat_cmp a.jf b.jf) (nat_cmp (shape_constant a) (shape_constant b))

    code : a.code ≡ b.code
    code = nat_same a.code b.code (then_equal (nat_cmp a.code b.code) (ordering_then (nat_cmp a.jt b.jt) after_jf) shape).0

    jumps : ordering_then (nat_cmp a.jt b.jt) after_jf ≡ Equal
    jumps = (then_equal (nat_cmp a.code b.code) (ordering_then (nat_cmp a.jt b.jt) after_jf) shape).1

    jt : a.jt ≡ b.jt
    jt = nat_same a.jt b.jt (then_equal (nat_cmp a.jt b.jt) after_jf jumps).0

    jf : a.jf ≡ b.jf
    jf = nat_same a.jf b.jf (then_equal (nat_cmp a.jf b.jf) (nat_cmp (shape_constant a) (shape_constant b)) (then_equal (nat_cmp a.jt b.jt) after_jf jumps).1).0

    k : a.k ≡ b.k
    k = nat_same a.k b.k constant

lists_same : (p q : List Insn) → slice_cmp shape_cmp p q ≡ Equal → slice_cmp constant_cmp p q ≡ Equal → p ≡ q
lists_same [] [] shape constant = refl
lists_same [] (y ∷ ys) shape constant = absurd cc
lists_same (x ∷ xs) [] shape constant = absurd cc
lists_same (x ∷ xs) (y ∷ ys) shape constant =
    let s = then_equal (shape_cmp x y) (slice_cmp shape_cmp xs ys) shape in
    let k = then_equal (constant_cmp x y) (slice_cmp constant_cmp xs ys) constant in
    let first = insn_same x y s.0 k.0 in
    let rest = lists_same xs ys s.1 k.1 in
    λ j. first j ∷ rest j

program_same : (p q : List Insn) → program_cmp p q ≡ Equal → p ≡ q
program_same p q e = let both = then_equal (slice_cmp shape_cmp p q) (slice_cmp constant_cmp p q) e in lists_same p q both.0 both.1

-- what is at most a program that comes before another comes before it too
below_of : (p q r : List Insn) (o : Ordering) → o ≡ program_cmp p q → is_gt o ≡ false → program_cmp q r ≡ Less → program_cmp p r ≡ Less
below_of p q r Less is most less = program_total.trans p q r (sym is) less
below_of p q r Equal is most less = program_total.congr p q r (sym is) ∙ less
below_of p q r Greater is most less = absurd cc

pub below : (p q r : List Insn) → is_gt (program_cmp p q) ≡ false → program_cmp q r ≡ Less → program_cmp p r ≡ Less
below p q r most less = below_of p q r (program_cmp p q) refl most less

less_most : (o : Ordering) → o ≡ Less → is_gt o ≡ false
less_most o is = ap is_gt is

-- what doesn't come before another is at least that
least_of : (o : Ordering) → (o ≡ Less → ⊥) → is_gt (ordering_reverse o) ≡ false
least_of Less not = absurd (not refl)
least_of Equal not = refl
least_of Greater not = refl

at_least : (p q : List Insn) → (program_cmp p q ≡ Less → ⊥) → is_gt (program_cmp q p) ≡ false
at_least p q not = ap is_gt (program_total.antisymm q p) ∙ least_of (program_cmp p q) not

tied_of : (o : Ordering) → is_gt o ≡ false → (o ≡ Less → ⊥) → o ≡ Equal
tied_of Less most not = absurd (not refl)
tied_of Equal most not = refl
tied_of Greater most not = absurd cc

then_nothing : (a : Ordering) → ordering_then a Equal ≡ a
then_nothing Less = refl
then_nothing Equal = refl
then_nothing Greater = refl

then_three : (a b c : Ordering) → ordering_then (ordering_then a b) c ≡ ordering_then a (ordering_then b c)
then_three Less b c = refl
then_three Equal b c = refl
then_three Greater b c = refl

decides : (o k : Ordering) → is_ne o ≡ true → ordering_then o k ≡ o
decides Less k e = refl
decides Equal k e = absurd cc
decides Greater k e = refl

defers : (o k : Ordering) → is_ne o ≡ false → ordering_then o k ≡ k
defers Less k e = absurd cc
defers Equal k e = refl
defers Greater k e = absurd cc

-- The loop that compares

cut : (xs : List Insn) (i : ℕ) (x : Insn) → slice_get xs i ≡ Some x → x ∷ drop (i + 1) xs ≡ drop i xs
cut [] i x at = absurd (let low = slice_get_within {A = Insn} [] i x at in omega arith)
cut (y ∷ ys) zero x at = let is : x ≡ y = cc in λ j. is j ∷ ys
cut (y ∷ ys) (suc i) x at = let e : suc i + 1 ≡ suc (i + 1) = omega arith in ap (λ (n : ℕ). x ∷ drop n (y ∷ ys)) e ∙ cut ys i x at

-- what is said of two lists from one place on, of the items there and what follows
pub begun : (p q : List Insn) (i : ℕ) (x y : Insn) → slice_get p i ≡ Some x → slice_get q i ≡ Some y → (R : Insn → Insn → Ordering)
    → slice_cmp R (drop i p) (drop i q) ≡ ordering_then (R x y) (slice_cmp R (drop (i + 1) p) (drop (i + 1) q))
begun p q i x y at at' R = sym ((λ j. slice_cmp R (cut p i x at j) (y ∷ drop (i + 1) q)) ∙ (λ j. slice_cmp R (drop i p) (cut q i y at' j)))

by_lengths : (R : Insn → Insn → Ordering) (us vs : List Insn) (r : Ordering) → min (length us) (length vs) ≡ 0
    → MatchOrdering r (length us < length vs) (length us ≡ length vs) (length vs < length us) → slice_cmp R us vs ≡ r
by_lengths R [] [] Less m h = absurd (let no : 0 < 0 = h in omega arith)
by_lengths R [] [] Equal m h = refl
by_lengths R [] [] Greater m h = absurd (let no : 0 < 0 = h in omega arith)
by_lengths R [] (v ∷ vs) Less m h = refl
by_lengths R [] (v ∷ vs) Equal m h = let e : 0 ≡ suc (length vs) = h in absurd (omega arith)
by_lengths R [] (v ∷ vs) Greater m h = absurd (let no : suc (length vs) < 0 = h in omega arith)
by_lengths R (u ∷ us) [] Less m h = absurd (let no : suc (length us) < 0 = h in omega arith)
by_lengths R (u ∷ us) [] Equal m h = let e : suc (length us) ≡ 0 = h in absurd (omega arith)
by_lengths R (u ∷ us) [] Greater m h = refl
by_lengths R (u ∷ us) (v ∷ vs) r m h = let e : min (suc (length us)) (suc (length vs)) ≡ 0 = m in absurd (omega arith)

shifted : (a b i : ℕ) (c d : ℕ) (r : Ordering) → i ≡ min a b → c + i ≡ a → d + i ≡ b → MatchOrdering r (a < b) (a ≡ b) (b < a) → MatchOrdering r (c < d) (c ≡ d) (d < c)
shifted a b i c d Less m p q h = let l : a < b = h in omega arith
shifted a b i c d Equal m p q h = let l : a ≡ b = h in omega arith
shifted a b i c d Greater m p q h = let l : b < a = h in omega arith

-- past the shorter of two lists their lengths decide
pub ended : (p q : List Insn) (i : ℕ) (r : Ordering) → i ≡ min (length p) (length q) → r ≡ nat_cmp (length p) (length q) → (R : Insn → Insn → Ordering)
    → slice_cmp R (drop i p) (drop i q) ≡ r
ended p q i r m h R =
    let c = length-drop i p in
    let d = length-drop i q in
    by_lengths R (drop i p) (drop i q) r (omega arith) (shifted (length p) (length q) i (length (drop i p)) (length (drop i q)) r m (omega arith) (omega arith) (ranked _ _ r h))

either : (r constants : Ordering) → ordering_then r constants ≡ ordering_then r (ordering_then constants r)
either Less constants = refl
either Equal Less = refl
either Equal Equal = refl
either Equal Greater = refl
either Greater constants = refl

-- how far the loop came: what is left to compare decides
pub record Compared (p q : List Insn) (i end : ℕ) (found : Ordering) : Type 0 where
  pub within : i ≤ end
  pub shorter : end ≡ min (length p) (length q)
  pub shapes : slice_cmp shape_cmp (drop i p) (drop i q) ≡ slice_cmp shape_cmp p q
  pub constants : ordering_then found (slice_cmp constant_cmp (drop i p) (drop i q)) ≡ slice_cmp constant_cmp p q

pub compared_none : (p q : List Insn) (end : ℕ) → end ≡ min (length p) (length q) → Compared p q 0 end Equal
compared_none p q end is = record { within = omega arith; shorter = is; shapes = refl; constants = refl }

module _ (p q : List Insn) (i end : ℕ) (constants : Ordering) (h : Compared p q i end constants) where
  pub compared_all : (r : Ordering) → end ≤ i → r ≡ nat_cmp (length p) (length q) → ordering_then r constants ≡ program_cmp p q
  compared_all r past is =
      let here : i ≡ min (length p) (length q) = let w = h.within in let e = h.shorter in omega arith in
      let shapes : slice_cmp shape_cmp p q ≡ r = sym h.shapes ∙ ended p q i r here is shape_cmp in
      let rest : ordering_then constants r ≡ slice_cmp constant_cmp p q = ap (ordering_then constants) (sym (ended p q i r here is constant_cmp)) ∙ h.constants in
      either r constants ∙ (ap (ordering_then r) rest ∙ ap (λ (o : Ordering). ordering_then o (slice_cmp constant_cmp p q)) (sym shapes))

  module _ (x y : Insn) (at : slice_get p i ≡ Some x) (at' : slice_get q i ≡ Some y) where
    pub compared_here : (o : Ordering) → o ≡ shape_cmp x y → is_ne o ≡ true → o ≡ program_cmp p q
    compared_here o is other =
        let found : o ≡ slice_cmp shape_cmp p q =
        sym (decides o (slice_cmp shape_cmp (drop (i + 1) p) (drop (i + 1) q)) other)
        ∙ (ap (λ (k : Ordering). ordering_then k (slice_cmp shape_cmp (drop (i + 1) p) (drop (i + 1) q))) is
        ∙ (sym (begun p q i x y at at' shape_cmp) ∙ h.shapes)) in
        sym (decides o (slice_cmp constant_cmp p q) other) ∙ ap (λ (k : Ordering). ordering_then k (slice_cmp constant_cmp p q)) found

    pub compared_more : (o k : Ordering) → o ≡ shape_cmp x y → is_ne o ≡ false → k ≡ constant_cmp x y → i < end → Compared p q (i + 1) end (ordering_then constants k)
    compared_more o k is same is' low = record {
      within = omega arith;
      shorter = h.shorter;
      shapes = sym (defers o (slice_cmp shape_cmp (drop (i + 1) p) (drop (i + 1) q)) same)
          ∙ (ap (λ (c : Ordering). ordering_then c (slice_cmp shape_cmp (drop (i + 1) p) (drop (i + 1) q))) is
          ∙ (sym (begun p q i x y at at' shape_cmp) ∙ h.shapes));
      constants = then_three constants k (slice_cmp constant_cmp (drop (i + 1) p) (drop (i + 1) q))
          ∙ (ap (λ (c : Ordering). ordering_then constants (ordering_then c (slice_cmp constant_cmp (drop (i + 1) p) (drop (i + 1) q)))) is'
          ∙ (ap (ordering_then constants) (sym (begun p q i x y at at' constant_cmp)) ∙ h.constants));
    }

    pub compared_same : x ≡ y → i < end → Compared p q (i + 1) end constants
    compared_same same low = subst (λ (o : Ordering). Compared p q (i + 1) end o) (then_nothing constants)
        (compared_more Equal Equal (sym (alike shape_cmp shape_total)) refl (sym (alike constant_cmp constant_total)) low)
      where
        alike : (R : Insn → Insn → Ordering) → IsTotalOrder R → R x y ≡ Equal
        alike R total = subst (λ (z : Insn). R x z ≡ Equal) same (tied_itself total x)

-- The order

at_of : (xs : List (List Insn)) (i : ℕ) → i < length xs → (x : List Insn) × (slice_get xs i ≡ Some x)
at_of xs i low = (get_or xs i [], slice_get-get_or xs i [] low)

place_of : (xs : List ℕ) (i : ℕ) → i < length xs → (x : ℕ) × (slice_get xs i ≡ Some x)
place_of xs i low = (get_or xs i 0, slice_get-get_or xs i 0 low)

pub order_none : IsOrder [] []
order_none = record {
  each = λ rank place at. absurd (let low = slice_get_within {A = ℕ} [] rank place at in omega arith);
  once = λ i j place at. absurd (let low = slice_get_within {A = ℕ} [] i place at in omega arith);
  all = λ place low. absurd (omega arith);
  rising = λ i j a b p q up at. absurd (let low = slice_get_within {A = ℕ} [] i a at in omega arith);
}

-- a program's place isn't before its rank
pub from_rank : (programs : List (List Insn)) (order : List ℕ) (program : List Insn) (rank place : ℕ) → IsOrder programs order → IsRank programs order program rank
    → slice_get programs place ≡ Some program → (i : ℕ) × (rank ≤ i) × (slice_get order i ≡ Some place)
from_rank programs order program rank place h r runs =
    let there = h.all place (slice_get_within programs place program runs) in
    elim (cases_lt there.0 rank) [
      | inl early ↦
          let less = r.before there.0 place program early there.1 runs in
          let tied = tied_itself program_total program in
          absurd (let no : Less ≡ Equal = sym less ∙ tied in cc)
      | inr late ↦ (there.0, late, there.1)
    ]

-- a program that isn't at its rank is none of them
pub is_absent : (programs : List (List Insn)) (order : List ℕ) (program : List Insn) (rank : ℕ) → IsOrder programs order → IsRank programs order program rank
    → ((place : ℕ) → slice_get order rank ≡ Some place → slice_get programs place ≡ Some program → ⊥) → IsAmong programs program → ⊥
is_absent programs order program rank h r not among =
    let there = from_rank programs order program rank among.0 h r among.1 in
    let late = there.1 in
    let low : rank < length order = let within = slice_get_within order there.0 among.0 there.2 in omega arith in
    let a = place_of order rank low in
    let p = at_of programs a.0 (h.each rank a.0 a.1) in
    let most = h.rising rank there.0 a.0 among.0 p.0 program late a.1 there.2 p.1 among.1 in
    let tied = tied_of (program_cmp p.0 program) most (r.after rank a.0 p.0 (omega arith) a.1 p.1) in
    not a.0 a.1 (p.1 ∙ ap Some (program_same p.0 program tied))

-- A search by halving: so many come before, and those from another place on don't

pub record IsBetween (programs : List (List Insn)) (order : List ℕ) (program : List Insn) (low high : ℕ) : Type 0 where
  pub ordered : low ≤ high
  pub within : high ≤ length order
  pub before : (i a : ℕ) (p : List Insn) → i < low → slice_get order i ≡ Some a → slice_get programs a ≡ Some p → program_cmp p program ≡ Less
  pub after : (i a : ℕ) (p : List Insn) → high ≤ i → slice_get order i ≡ Some a → slice_get programs a ≡ Some p → program_cmp p program ≡ Less → ⊥

pub between_all : (programs : List (List Insn)) (order : List ℕ) (program : List Insn) (count : ℕ) → count ≡ length order → IsBetween programs order program 0 count
between_all programs order program count is = record {
  ordered = omega arith;
  within = omega arith;
  before = λ i a p early. absurd (omega arith);
  after = λ i a p late at. absurd (let within = slice_get_within order i a at in omega arith);
}

pub between_none : (programs : List (List Insn)) (order : List ℕ) (program : List Insn) (low high : ℕ) → IsBetween programs order program low high → high ≤ low
    → IsRank programs order program low
between_none programs order program low high b met = record {
  within = let o = b.ordered in let w = b.within in omega arith;
  before = b.before;
  after = λ i a p late. b.after i a p (let o = b.ordered in omega arith);
}

module _ (programs : List (List Insn)) (order : List ℕ) (program : List Insn) (low high middle place : ℕ) (other : List Insn) (h : IsOrder programs order) (b : IsBetween programs order program low high)
    (from : low ≤ middle) (to : middle < high) (at : slice_get order middle ≡ Some place) (there : slice_get programs place ≡ Some other) where
  pub between_later : is_lt (program_cmp other program) ≡ true → IsBetween programs order program (middle + 1) high
  between_later less = record {
    ordered = omega arith;
    within = b.within;
    before = λ i a p early at' there'. below p other program (h.rising i middle a place p other (omega arith) at' at there' there) (less_is (program_cmp other program) less);
    after = b.after;
  }
    where
      less_is : (o : Ordering) → is_lt o ≡ true → o ≡ Less
      less_is Less e = refl
      less_is Equal e = absurd cc
      less_is Greater e = absurd cc

  pub between_earlier : is_lt (program_cmp other program) ≡ false → IsBetween programs order program low middle
  between_earlier not = record {
    ordered = from;
    within = let w = b.within in omega arith;
    before = b.before;
    after = λ i a p late at' there' less.
        let other_less : program_cmp other program ≡ Less = below other p program (h.rising middle i place a other p late at at' there there') less in
        absurd (let no : true ≡ false = ap is_lt (sym other_less) ∙ not in cc);
  }

-- The programs on both sides of a rank are one before another and one that isn't
pub stands_between : (programs : List (List Insn)) (order : List ℕ) (program : List Insn) (rank a b : ℕ) (p q : List Insn) → IsOrder programs order → 0 < rank
    → slice_get order (rank - 1) ≡ Some a → slice_get programs a ≡ Some p → slice_get order rank ≡ Some b → slice_get programs b ≡ Some q
    → is_lt (program_cmp p program) ≡ true → is_lt (program_cmp q program) ≡ false → IsRank programs order program rank
stands_between programs order program rank a b p q h some at there at' there' less not =
    let within : rank < length order = slice_get_within order rank b at' in
    let all = between_all programs order program (length order) refl in
    let later = between_later programs order program 0 (length order) (rank - 1) a p h all (omega arith) (omega arith) at there less in
    let both = between_earlier programs order program (rank - 1 + 1) (length order) rank b q h later (omega arith) (omega arith) at' there' not in
    let same : rank - 1 + 1 ≡ rank = omega arith in
    subst (λ (n : ℕ). IsRank programs order program n) same (between_none programs order program (rank - 1 + 1) rank both (omega arith))

module _ (programs : List (List Insn)) (order : List ℕ) (program : List Insn) (rank : ℕ) (h : IsOrder programs order) (r : IsRank programs order program rank) where
  fresh : (i : ℕ) → slice_get order i ≡ Some (length programs) → ⊥
  fresh i at = let low = h.each i (length programs) at in omega arith

  old_at : (a : ℕ) (p : List Insn) (i : ℕ) → slice_get order i ≡ Some a → slice_get (programs ++ program ∷ []) a ≡ Some p → slice_get programs a ≡ Some p
  old_at a p i at there = sym (pushed_below programs program a (h.each i a at)) ∙ there

  new_at : (a : ℕ) (p : List Insn) → a ≡ length programs → slice_get (programs ++ program ∷ []) a ≡ Some p → p ≡ program
  new_at a p is there = one_thing (programs ++ program ∷ []) (length programs) p program (subst (λ (n : ℕ). slice_get (programs ++ program ∷ []) n ≡ Some p) is there) (pushed_here programs program)

  put_rising : (i j a b : ℕ) (p q : List Insn) → i ≤ j → IsPut order rank (length programs) i a → IsPut order rank (length programs) j b
      → slice_get (programs ++ program ∷ []) a ≡ Some p → slice_get (programs ++ program ∷ []) b ≡ Some q → is_gt (program_cmp p q) ≡ false
  put_rising i j a b p q up (put_before low at) (put_before low' at') there there' = h.rising i j a b p q up at at' (old_at a p i at there) (old_at b q j at' there')
  put_rising i j a b p q up (put_before low at) (put_it here is) there there' =
      less_most (program_cmp p q) (ap (program_cmp p) (new_at b q is there') ∙ r.before i a p low at (old_at a p i at there))
  put_rising i j a b p q up (put_before low at) (put_after k from is at') there there' = h.rising i k a b p q (omega arith) at at' (old_at a p i at there) (old_at b q k at' there')
  put_rising i j a b p q up (put_it here is) (put_before low at) there there' = absurd (omega arith)
  put_rising i j a b p q up (put_it here is) (put_it here' is') there there' =
      let same : p ≡ q = new_at a p is there ∙ sym (new_at b q is' there') in
      ap is_gt (ap (program_cmp p) (sym same) ∙ tied_itself program_total p)
  put_rising i j a b p q up (put_it here is) (put_after k from is' at) there there' =
      ap (λ (x : List Insn). is_gt (program_cmp x q)) (new_at a p is there) ∙ at_least q program (r.after k b q from at (old_at b q k at there'))
  put_rising i j a b p q up (put_after k from is at) (put_before low at') there there' = absurd (omega arith)
  put_rising i j a b p q up (put_after k from is at) (put_it here is') there there' = absurd (omega arith)
  put_rising i j a b p q up (put_after k from is at) (put_after l from' is' at') there there' = h.rising k l a b p q (omega arith) at at' (old_at a p k at there) (old_at b q l at' there')

  put_each : (i a : ℕ) → IsPut order rank (length programs) i a → a < length (programs ++ program ∷ [])
  put_each i a (put_before low at) = let old = h.each i a at in omega (arith, length_push programs program)
  put_each i a (put_it here is) = omega (arith, length_push programs program)
  put_each i a (put_after k from is at) = let old = h.each k a at in omega (arith, length_push programs program)

  put_all : (place : ℕ) → place < length (programs ++ program ∷ []) → (i : ℕ) × (slice_get (insert order rank (length programs)) i ≡ Some place)
  put_all place low = elim (cases_lt place (length programs)) [
    | inl old ↦
        let there = h.all place old in
        elim (cases_lt there.0 rank) [
          | inl early ↦ (there.0, insert_below order rank (length programs) there.0 r.within early ∙ there.1)
          | inr late ↦ (suc there.0, insert_above order rank (length programs) there.0 r.within late ∙ there.1)
        ]
    | inr new ↦
        let is : length programs ≡ place = omega (arith, length_push programs program) in
        (rank, insert_here order rank (length programs) r.within ∙ ap Some is)
  ]

  pub order_put : IsOrder (programs ++ program ∷ []) (insert order rank (length programs))
  order_put = record {
    each = λ i a at. put_each i a (is_put order rank (length programs) i a r.within at);
    once = once_put order h.once rank (length programs) r.within fresh;
    all = put_all;
    rising = λ i j a b p q up at at' there there'. put_rising i j a b p q up (is_put order rank (length programs) i a r.within at) (is_put order rank (length programs) j b r.within at') there there';
  }

-- Once a program is taken out

-- what is left at a rank, where it was before, and what its place was
pub record WasAt (order : List ℕ) (taken last rank i b : ℕ) : Type 0 where
  pub old : ℕ
  pub place : ℕ
  pub at : slice_get order old ≡ Some place
  pub apart : old ≡ rank → ⊥
  pub from : (i < rank) × (old ≡ i) ⊎ (rank ≤ i) × (old ≡ suc i)
  pub is : b ≡ place_once_taken taken last place

module _ (programs left : List (List Insn)) (order : List ℕ) (taken last rank : ℕ) (h : IsOrder programs order) (w : AreWithout programs taken left)
    (long : length programs ≡ last + 1) (low : taken < length programs) (there : slice_get order rank ≡ Some taken) where
  short : length left ≡ last
  short = let count = w.count in omega arith

  inside : rank < length order
  inside = slice_get_within order rank taken there

  was_left : (i b place : ℕ) → b ≡ place_once_taken taken last place → IsLeft order rank i place → WasAt order taken last rank i b
  was_left i b place is (left_before below at) = record { old = i; place = place; at = at; apart = λ e. omega arith; from = inl (below, refl); is = is }
  was_left i b place is (left_after from at) = record { old = suc i; place = place; at = at; apart = λ e. omega arith; from = inr (from, refl); is = is }

  was_at : (i b : ℕ) → slice_get (map (place_once_taken taken last) (remove order rank)) i ≡ Some b → WasAt order taken last rank i b
  was_at i b at = elim (is_mapped (place_once_taken taken last) (remove order rank) i b at) [
    | mapped place before is ↦ was_left i b place is (is_left order rank i place inside before)
  ]

  kept : (i b : ℕ) (was : WasAt order taken last rank i b) → was.place ≡ taken → ⊥
  kept i b was e = was.apart (h.once was.old rank taken (was.at ∙ ap Some e) there)

  -- the place, and what it was
  data Named (b place : ℕ) : Type 0 where
    named_last : place ≡ last → b ≡ taken → taken < last → Named b place
    named_other : (place ≡ last → ⊥) → b ≡ place → place < last → Named b place

  named : (i b : ℕ) (was : WasAt order taken last rank i b) → Named b was.place
  named i b was =
      let place = was.place in
      let is = was.is in
      let within : place < length programs = h.each was.old place was.at in
      let apart = kept i b was in
      elim (cases_eq place last) [
        | inl same ↦
            let renamed : b ≡ taken = grind (arith, nat_tests) in
            named_last same renamed (let other : last ≡ taken → ⊥ = λ e. apart (same ∙ e) in omega arith)
        | inr other ↦
            let renamed : b ≡ place = grind (arith, nat_tests) in
            named_other other renamed (omega arith)
      ]

  before : (b place : ℕ) → (place ≡ taken → ⊥) → Named b place → place_before taken (length left) b ≡ place
  before b place apart (named_last is here up) = let s = short in grind (arith, nat_tests)
  before b place apart (named_other other here up) = let s = short in grind (arith, nat_tests)

  left_each : (b place : ℕ) → Named b place → b < length left
  left_each b place (named_last is here up) = let s = short in omega arith
  left_each b place (named_other other here up) = let s = short in omega arith

  same_place : (b p q : ℕ) → Named b p → Named b q → (p ≡ taken → ⊥) → (q ≡ taken → ⊥) → p ≡ q
  same_place b p q (named_last is here up) (named_last is' here' up') not not' = is ∙ sym is'
  same_place b p q (named_last is here up) (named_other other here' up') not not' = absurd (not' (sym here' ∙ here))
  same_place b p q (named_other other here up) (named_last is here' up') not not' = absurd (not (sym here ∙ here'))
  same_place b p q (named_other other here up) (named_other other' here' up') not not' = sym here ∙ here'

  same_rank : (i j m n : ℕ) → m ≡ n → (i < rank) × (m ≡ i) ⊎ (rank ≤ i) × (m ≡ suc i) → (j < rank) × (n ≡ j) ⊎ (rank ≤ j) × (n ≡ suc j) → i ≡ j
  same_rank i j m n e (inl a) (inl b) = let x = a.1 in let y = b.1 in omega arith
  same_rank i j m n e (inl a) (inr b) = let x = a.1 in let y = b.1 in let u = a.0 in let v = b.0 in absurd (omega arith)
  same_rank i j m n e (inr a) (inl b) = let x = a.1 in let y = b.1 in let u = a.0 in let v = b.0 in absurd (omega arith)
  same_rank i j m n e (inr a) (inr b) = let x = a.1 in let y = b.1 in omega arith

  same_order : (i j m n : ℕ) → i ≤ j → (i < rank) × (m ≡ i) ⊎ (rank ≤ i) × (m ≡ suc i) → (j < rank) × (n ≡ j) ⊎ (rank ≤ j) × (n ≡ suc j) → m ≤ n
  same_order i j m n up (inl a) (inl b) = let x = a.1 in let y = b.1 in omega arith
  same_order i j m n up (inl a) (inr b) = let x = a.1 in let y = b.1 in omega arith
  same_order i j m n up (inr a) (inl b) = let u = a.0 in let v = b.0 in absurd (omega arith)
  same_order i j m n up (inr a) (inr b) = let x = a.1 in let y = b.1 in omega arith

  left_once : (i j b : ℕ) → WasAt order taken last rank i b → WasAt order taken last rank j b → i ≡ j
  left_once i j b was was' =
      let place : was.place ≡ was'.place = same_place b was.place was'.place (named i b was) (named j b was') (kept i b was) (kept j b was') in
      same_rank i j was.old was'.old (h.once was.old was'.old was'.place (was.at ∙ ap Some place) was'.at) was.from was'.from

  source : (i b : ℕ) (was : WasAt order taken last rank i b) (p : List Insn) → slice_get left b ≡ Some p → slice_get programs was.place ≡ Some p
  source i b was p at = subst (λ (n : ℕ). slice_get programs n ≡ Some p) (before b was.place (kept i b was) (named i b was)) (w.each b p at)

  left_rank : (place s : ℕ) → slice_get order s ≡ Some place → (place ≡ taken → ⊥)
      → (i : ℕ) × (slice_get (map (place_once_taken taken last) (remove order rank)) i ≡ Some (place_once_taken taken last place))
  left_rank place s at apart = elim (cases_lt s rank) [
    | inl below ↦ (s, map_at (place_once_taken taken last) (remove order rank) s place (remove_below order rank s inside below ∙ at))
    | inr from ↦
        let other : s ≡ rank → ⊥ = λ e. apart (one_thing order rank place taken (subst (λ (n : ℕ). slice_get order n ≡ Some place) e at) there) in
        left_later place s at (omega arith)
  ]
    where
      left_later : (place s : ℕ) → slice_get order s ≡ Some place → rank < s
          → (i : ℕ) × (slice_get (map (place_once_taken taken last) (remove order rank)) i ≡ Some (place_once_taken taken last place))
      left_later place zero at after = absurd (omega arith)
      left_later place (suc i) at after = (i, map_at (place_once_taken taken last) (remove order rank) i place (remove_above order rank i inside (omega arith) ∙ at))

  left_all : (b : ℕ) → b < length left → (i : ℕ) × (slice_get (map (place_once_taken taken last) (remove order rank)) i ≡ Some b)
  left_all b within = elim (cases_eq b taken) [
    | inl same ↦
        let s = h.all last (omega arith) in
        let r = left_rank last s.0 s.1 (λ e. let c = short in omega arith) in
        let is : place_once_taken taken last last ≡ b = grind (arith, nat_tests) in
        (r.0, r.1 ∙ ap Some is)
    | inr other ↦
        let s = h.all b (let c = short in omega arith) in
        let r = left_rank b s.0 s.1 other in
        let apart : b ≡ last → ⊥ = λ e. let c = short in omega arith in
        let is : place_once_taken taken last b ≡ b = grind (arith, nat_tests) in
        (r.0, r.1 ∙ ap Some is)
  ]

  pub order_taken : IsOrder left (map (place_once_taken taken last) (remove order rank))
  order_taken = record {
    each = λ i b at. let was = was_at i b at in left_each b was.place (named i b was);
    once = λ i j b at at'. left_once i j b (was_at i b at) (was_at j b at');
    all = left_all;
    rising = λ i j a b p q up at at' there' there''.
        let was = was_at i a at in
        let was' = was_at j b at' in
        h.rising was.old was'.old was.place was'.place p q (same_order i j was.old was'.old up was.from was'.from) was.at was'.at (source i a was p there') (source j b was' q there'');
  }

-- the last place is renamed, and then the one that was taken goes

map_remove : (f : ℕ → ℕ) (xs : List ℕ) (i : ℕ) → remove (map f xs) i ≡ map f (remove xs i)
map_remove f [] zero = refl
map_remove f [] (suc i) = refl
map_remove f (x ∷ xs) zero = refl
map_remove f (x ∷ xs) (suc i) = ap (λ (ys : List ℕ). f x ∷ ys) (map_remove f xs i)

module _ (order : List ℕ) (taken last renamed : ℕ) (once : (i j : ℕ) → slice_get order i ≡ Some last → slice_get order j ≡ Some last → i ≡ j) (at_last : slice_get order renamed ≡ Some last) where
  other_kept : (j y : ℕ) → (j ≡ renamed → ⊥) → slice_get order j ≡ Some y → y ≡ place_once_taken taken last y
  other_kept j y apart at =
      let other : y ≡ last → ⊥ = λ e. apart (once j renamed (at ∙ ap Some e) at_last) in
      grind (arith, nat_tests)

  last_renamed : slice_set order renamed taken ≡ map (place_once_taken taken last) order
  last_renamed =
      let is : taken ≡ place_once_taken taken last last = grind (arith, nat_tests) in
      ap (λ (xs : List ℕ). slice_set xs renamed taken) (sym (map_same (λ (y : ℕ). y) order (λ i x at. refl)))
      ∙ (ap (slice_set (map (λ (y : ℕ). y) order) renamed) is
      ∙ set_mapped (λ (y : ℕ). y) (place_once_taken taken last) order renamed last at_last other_kept)

  pub order_renamed : (rank : ℕ) → remove (slice_set order renamed taken) rank ≡ map (place_once_taken taken last) (remove order rank)
  order_renamed rank = ap (λ (xs : List ℕ). remove xs rank) last_renamed ∙ map_remove (place_once_taken taken last) order rank

-- the last place goes itself
pub order_kept : (order : List ℕ) (taken last : ℕ) → last ≡ taken → (rank : ℕ) → remove order rank ≡ map (place_once_taken taken last) (remove order rank)
order_kept order taken last same rank = sym (map_same (place_once_taken taken last) (remove order rank) (λ i place at. grind (arith, nat_tests)))

-- how far a place was looked for

pub record IsFound (order : List ℕ) (place first end : ℕ) (found : Bool) : Type 0 where
  pub there : found ≡ true → (rank : ℕ) × (rank < end) × (first ≤ rank) × (slice_get order rank ≡ Some place)
  pub none : found ≡ false → (rank : ℕ) → first ≤ rank → rank < end → slice_get order rank ≡ Some place → ⊥

pub found_none : (order : List ℕ) (place first : ℕ) → IsFound order place first first false
found_none order place first = record { there = λ e. absurd cc; none = λ e rank from below. absurd (omega arith) }

pub found_here : (order : List ℕ) (place first rank : ℕ) → first ≤ rank → slice_get order rank ≡ Some place → IsFound order place first (rank + 1) true
found_here order place first rank from at = record { there = λ e. (rank, omega arith, from, at); none = λ e. absurd cc }

pub found_next : (order : List ℕ) (place first rank : ℕ) (found : Bool) → IsFound order place first rank found → (slice_get order rank ≡ Some place → ⊥) → IsFound order place first (rank + 1) found
found_next order place first rank found h other = record {
  there = λ e. let t = h.there e in (t.0, let low = t.1 in omega arith, t.2, t.3);
  none = λ e i from below at. elim (cases_lt i rank) [
    | inl before ↦ h.none e i from before at
    | inr past ↦ other (subst (λ (n : ℕ). slice_get order n ≡ Some place) (let here : i ≡ rank = omega arith in here) at)
  ];
}
