-- How the count of what a list has changes with an entry, and what it says of the entries.
use Rattle.std.proofs.Common.{◌≡◌, ◌+◌, ◌<◌, ◌≤◌, ℕ, zero, suc, Bool, true, false, not, eqb, cond, Option, None, Some, List, [], ◌∷◌, length, get_or, slice_get, slice_set, refl, sym, ap, ◌∙◌, arith}
use Rattle.std.specs.Prelude.{◌≢◌, ◌↔◌, IsTrue, count_by, nat_lt, is_none, is_some}
use Rattle.std.specs.List.{list_all}
use Rattle.std.proofs.lemmas.Bool.Decides.{nat_tests}
use Rattle.std.proofs.lemmas.List.Sums.{sum_by-cons}
use Rattle.std.proofs.lemmas.Option.{slice_get-get_or}
use Rattle.filter_table.specs.declared.operation.Op.{Op}
use Rattle.filter_table.specs.declared.decision.Vote.{Vote}
use Rattle.monitor_2pc.specs.Counting.{votes_missing, requests_waiting}

with_first : {X : Type 0} (p : X → Bool) (x : X) (xs : List X) (b : Bool) → p x ≡ b → count_by p (x ∷ xs) ≡ cond b 1 0 + count_by p xs
with_first p x xs b e = sum_by-cons (λ y. cond (p y) 1 0) x xs ∙ ap (λ (c : Bool). cond c 1 0 + count_by p xs) e

-- an entry no longer counts
pub counts_less : {X : Type 0} (p : X → Bool) (xs : List X) (i : ℕ) (x y : X) → slice_get xs i ≡ Some x → p x ≡ true → p y ≡ false → count_by p (slice_set xs i y) + 1 ≡ count_by p xs
counts_less p [] i x y at counts not_then = absurd cc
counts_less p (z ∷ xs) zero x y at counts not_then =
    let is : z ≡ x = cc in
    let before : count_by p (z ∷ xs) ≡ 1 + count_by p xs = with_first p z xs true (ap p is ∙ counts) in
    let then : count_by p (y ∷ xs) ≡ 0 + count_by p xs = with_first p y xs false not_then in
    omega (arith, before, then)
counts_less p (z ∷ xs) (suc i) x y at counts not_then =
    let rest : count_by p (slice_set xs i y) + 1 ≡ count_by p xs = counts_less p xs i x y at counts not_then in
    let before : count_by p (z ∷ xs) ≡ cond (p z) 1 0 + count_by p xs = with_first p z xs (p z) refl in
    let then : count_by p (z ∷ slice_set xs i y) ≡ cond (p z) 1 0 + count_by p (slice_set xs i y) = with_first p z (slice_set xs i y) (p z) refl in
    omega (arith, rest, before, then)

some_first : {X : Type 0} (p : X → Bool) (x : X) (xs : List X) (b : Bool) → p x ≡ b → 0 < count_by p (x ∷ xs)
    → (0 < count_by p xs → (i : ℕ) × (y : X) × (slice_get xs i ≡ Some y) × (p y ≡ true)) → (i : ℕ) × (y : X) × (slice_get (x ∷ xs) i ≡ Some y) × (p y ≡ true)
some_first p x xs true e more rest = (0, x, refl, e)
some_first p x xs false e more rest =
    let same : count_by p (x ∷ xs) ≡ 0 + count_by p xs = with_first p x xs false e in
    let r = rest (omega (arith, more, same)) in
    (suc r.0, r.1, r.2, r.3)

-- some entry counts
pub some_counts : {X : Type 0} (p : X → Bool) (xs : List X) → 0 < count_by p xs → (i : ℕ) × (x : X) × (slice_get xs i ≡ Some x) × (p x ≡ true)
some_counts p [] more = absurd (let impossible : ⊥ = omega (arith, more) in impossible)
some_counts p (x ∷ xs) more = some_first p x xs (p x) refl more (some_counts p xs)

first_not : (b : Bool) (n : ℕ) → cond b 1 0 + n ≡ 0 → b ≡ false
first_not true n e = absurd (let impossible : ⊥ = omega (arith, e) in impossible)
first_not false n e = refl

-- no entry counts
pub none_counts : {X : Type 0} (p : X → Bool) (xs : List X) (i : ℕ) (x : X) → count_by p xs ≡ 0 → slice_get xs i ≡ Some x → p x ≡ false
none_counts p [] i x none at = absurd cc
none_counts p (y ∷ xs) zero x none at =
    let is : x ≡ y = cc in
    ap p is ∙ first_not (p y) (count_by p xs) (sym (with_first p y xs (p y) refl) ∙ none)
none_counts p (y ∷ xs) (suc i) x none at =
    let first : count_by p (y ∷ xs) ≡ cond (p y) 1 0 + count_by p xs = with_first p y xs (p y) refl in
    none_counts p xs i x (omega (arith, first, none)) at

-- all are marked where none is missing
pub all_marked : (xs : List Bool) → list_all (λ x. x) xs ≡ eqb (count_by not xs) 0
all_marked [] = refl
all_marked (true ∷ xs) =
    let same : count_by not (true ∷ xs) ≡ 0 + count_by not xs = with_first not true xs false refl in
    let count_is : count_by not (true ∷ xs) ≡ count_by not xs = omega (arith, same) in
    all_marked xs ∙ ap (λ (n : ℕ). eqb n 0) (sym count_is)
all_marked (false ∷ xs) =
    let more : count_by not (false ∷ xs) ≡ 1 + count_by not xs = with_first not false xs true refl in
    grind (arith, nat_tests, more)

-- they will be once the one that is missing is
pub last_marked : (xs : List Bool) (i missing : ℕ) → missing ≡ count_by not xs → slice_get xs i ≡ Some false → eqb missing 1 ≡ list_all (λ x. x) (slice_set xs i true)
last_marked xs i missing is at =
    let less : count_by not (slice_set xs i true) + 1 ≡ count_by not xs = counts_less not xs i false true at refl refl in
    let all = all_marked (slice_set xs i true) in
    grind (arith, nat_tests, less, is, all)

-- Votes, and requests that wait

-- the entry that was read is empty
pub empty_at : {X : Type 0} (xs : List (Option X)) (i : ℕ) (x : Option X) → i < length xs → x ≡ get_or xs i x → is_some x ≡ false → slice_get xs i ≡ Some None
empty_at xs i None within read e = slice_get-get_or xs i None within ∙ ap Some (sym read)
empty_at xs i (Some y) within read e = absurd cc

is_empty : {X : Type 0} (o : Option X) → is_none o ≡ true → o ≡ None
is_empty None e = refl
is_empty (Some x) e = absurd cc

is_full : {X : Type 0} (o : Option X) → is_some o ≡ true → (x : X) × (o ≡ Some x)
is_full None e = absurd cc
is_full (Some x) e = (x, refl)

-- one vote is missing still
pub missing_after : (votes : List (Option Vote)) (i missing : ℕ) (v : Vote) → missing ≡ votes_missing votes → 1 < missing → slice_get votes i ≡ Some None
    → (k : ℕ) × (slice_get (slice_set votes i (Some v)) k ≡ Some None)
missing_after votes i missing v is more at =
    let less : count_by is_none (slice_set votes i (Some v)) + 1 ≡ count_by is_none votes = counts_less is_none votes i None (Some v) at refl refl in
    let r = some_counts is_none (slice_set votes i (Some v)) (omega (arith, less, is, more)) in
    (r.0, r.2 ∙ ap Some (is_empty r.1 r.3))

-- none is
pub none_after : (votes : List (Option Vote)) (i missing : ℕ) (v : Vote) → missing ≡ votes_missing votes → missing ≤ 1 → slice_get votes i ≡ Some None
    → (k : ℕ) → slice_get (slice_set votes i (Some v)) k ≢ Some None
none_after votes i missing v is few at k missing_there =
    let less : count_by is_none (slice_set votes i (Some v)) + 1 ≡ count_by is_none votes = counts_less is_none votes i None (Some v) at refl refl in
    let there : true ≡ false = none_counts is_none (slice_set votes i (Some v)) k None (omega (arith, less, is, few)) missing_there in
    cc

abbrev SomeWaits : List (Option Op) → Type 0
SomeWaits waiting = (entry : ℕ) × (op : Op) × (slice_get waiting entry ≡ Some (Some op))

waits_by_count : (waiting : List (Option Op)) (count : ℕ) → count ≡ requests_waiting waiting → IsTrue (nat_lt 0 count) → SomeWaits waiting
waits_by_count waiting count is above =
    let more : 0 < count_by is_some waiting = grind (arith, nat_tests, above, is) in
    let r = some_counts is_some waiting more in
    let o = is_full r.1 r.3 in
    (r.0, o.0, r.2 ∙ ap Some o.1)

count_by_waits : (waiting : List (Option Op)) (count : ℕ) → count ≡ requests_waiting waiting → SomeWaits waiting → IsTrue (nat_lt 0 count)
count_by_waits waiting count is w =
    let less : count_by is_some (slice_set waiting w.0 None) + 1 ≡ count_by is_some waiting = counts_less is_some waiting w.0 (Some w.1) None w.2 refl refl in
    grind (arith, nat_tests, less, is)

-- a request waits where the count is not 0
pub some_waits : (waiting : List (Option Op)) (count : ℕ) → count ≡ requests_waiting waiting → IsTrue (nat_lt 0 count) ↔ (entry : ℕ) × (op : Op) × (slice_get waiting entry ≡ Some (Some op))
some_waits waiting count is = (waits_by_count waiting count is, count_by_waits waiting count is)
