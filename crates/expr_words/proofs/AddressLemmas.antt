-- The octets of an address, part by part.
use Rattle.std.proofs.Common.{◌≡◌, ℕ, suc, ◌+◌, ◌*◌, ◌<◌, ◌≤◌, ◌==◌, Bool, true, false, not, cond, List, [], ◌∷◌, length, take, drop, ◌≢◌, ◌⊎◌, inl, inr, Option, Some, None, refl, sym, ap, ◌∙◌, subst, zero-add, arith}
use Rattle.std.specs.Prelude.{option_map, option_and_then, nat_le, ◌&&◌, if◌then◌else◌}
use Rattle.std.specs.Bool.{then_some}
use Rattle.std.specs.List.{slice_split, position_or_len}
use Rattle.std.proofs.Math.Nat.{eq-or-lt_of_le}
use Rattle.std.proofs.lemmas.List.{take_all}
use Rattle.std.proofs.lemmas.List.Splits.{slice_split_first}
use Rattle.std.proofs.lemmas.Bool.Decides.{nat_tests}
use Rattle.expr_words.specs.declared.address.Octets.{Octets}
use Rattle.expr_words.specs.declared.word.V4.{V4}
use Rattle.expr_words.specs.Address.{parts, all_octets, joined, v4_of, mac_of}
use Rattle.expr_words.specs.AddressViews.{sum_after}
use Rattle.expr_words.specs.Number.{octet}

unsplit_by : {X : Type 0} (p : X → Bool) (x : X) (xs : List X) (b : Bool) → p x ≡ b → cond (not b) (1 + position_or_len p xs) 0 ≡ suc (length xs)
    → (position_or_len p xs ≡ length xs → slice_split p xs ≡ xs ∷ []) → slice_split p (x ∷ xs) ≡ (x ∷ xs) ∷ []
unsplit_by p x xs true is h onward = absurd (omega arith)
unsplit_by p x xs false is h onward = rw (is, onward (omega arith)) refl

-- a text that has no separator is one part
pub unsplit : {X : Type 0} (p : X → Bool) (xs : List X) → position_or_len p xs ≡ length xs → slice_split p xs ≡ xs ∷ []
unsplit p [] h = refl
unsplit p (x ∷ xs) h = unsplit_by p x xs (p x) refl h (unsplit p xs)

-- one octet more
pub sum_more : (c v n : ℕ) (o : Option (List ℕ)) → option_and_then (sum_after c v) (option_map (λ ns. n ∷ ns) o) ≡ option_and_then (sum_after (c + 1) (v * 256 + n)) o
sum_more c v n None = refl
sum_more c v n (Some ns) = let e : c + length (n ∷ ns) ≡ (c + 1) + length ns = omega arith in rw e refl

too_many : (k : ℕ) → nat_le (6 + suc k) 6 ≡ false
too_many k = grind (arith, nat_tests)

-- after six octets there is none more
pub sum_full : (v n : ℕ) (o : Option (List ℕ)) → option_and_then (sum_after 6 v) (option_map (λ ns. n ∷ ns) o) ≡ None
sum_full v n None = refl
sum_full v n (Some ns) = rw (too_many (length ns)) refl

-- the first part is an octet, or there are none
pub octets_first : (base : ℕ) (p : List ℕ) (ps : List (List ℕ)) (n : ℕ) → octet base p ≡ Some n → all_octets base (p ∷ ps) ≡ option_map (λ ns. n ∷ ns) (all_octets base ps)
octets_first base p ps n is = rw is refl

pub octets_none : (base : ℕ) (p : List ℕ) (ps : List (List ℕ)) → octet base p ≡ None → all_octets base (p ∷ ps) ≡ None
octets_none base p ps is = rw is refl

-- the parts of a text whose first separator stands at a place
pub parts_first : (separator : ℕ) (text : List ℕ) (end : ℕ) → end ≡ position_or_len (λ b. b == separator) text → end < length text
    → parts separator text ≡ take end text ∷ parts separator (drop (end + 1) text)
parts_first separator text end is within = rw is (slice_split_first (λ b. b == separator) text 0 (rw (sym is) within))

pub parts_last : (separator : ℕ) (text : List ℕ) (end : ℕ) → end ≡ position_or_len (λ b. b == separator) text → end ≡ length text → parts separator text ≡ text ∷ []
parts_last separator text end is whole = unsplit (λ b. b == separator) text (sym is ∙ whole)

summed_by : (ns : List ℕ) (found : Octets) (b : Bool) → (if b then Some (record { count = 0 + length ns; value = joined ns }) else None) ≡ Some found
    → (all : List ℕ) × (Some ns ≡ Some all) × (found.count ≡ length all) × (found.value ≡ joined all)
summed_by ns found false is = absurd (cc)
summed_by ns found true is =
    let same : found ≡ record { count = 0 + length ns; value = joined ns } = cc in
    (ns, refl, ap (λ f. f.count) same ∙ zero-add (length ns), ap (λ f. f.value) same)

-- what is known of octets that are summed
pub summed_some : (o : Option (List ℕ)) (found : Octets) → option_and_then (sum_after 0 0) o ≡ Some found
    → (ns : List ℕ) × (o ≡ Some ns) × (found.count ≡ length ns) × (found.value ≡ joined ns)
summed_some None found is = absurd (cc)
summed_some (Some ns) found is = summed_by ns found (nat_le (0 + length ns) 6) is

many_by : (n : ℕ) (found : Octets) → (if nat_le (0 + n) 6 then Some found else None) ≡ None → 6 < n
many_by n found is = grind (arith, nat_tests)

-- where none are, there is no list of six or fewer
pub summed_none : (o : Option (List ℕ)) → option_and_then (sum_after 0 0) o ≡ None → (ns : List ℕ) → o ≡ Some ns → 6 < length ns
summed_none None is ns some = absurd (cc)
summed_none (Some all) is ns some =
    let same : all ≡ ns = cc in
    subst (λ l. 6 < length l) same (many_by (length all) (record { count = 0 + length all; value = joined all }) is)

pub none_of_many : {T : Type 0} (f : List ℕ → Option T) (o : Option (List ℕ)) → ((ns : List ℕ) → o ≡ Some ns → f ns ≡ None) → option_and_then f o ≡ None
none_of_many f None h = refl
none_of_many f (Some ns) h = h ns refl

pub no_mac_of : (ns : List ℕ) → length ns ≢ 6 → mac_of ns ≡ None
no_mac_of ns h = grind (arith, nat_tests)

no_v4_by : {T : Type 0} (n : ℕ) (found : T) → n ≢ 2 → n ≢ 3 → n ≢ 4 → (if nat_le 2 n && nat_le n 4 then Some found else None) ≡ None
no_v4_by n found two three four = grind (arith, nat_tests)

pub no_v4_of : (ns : List ℕ) → length ns ≢ 2 → length ns ≢ 3 → length ns ≢ 4 → v4_of ns ≡ None
no_v4_of ns two three four = no_v4_by (length ns) _ two three four

front_by : (separator : ℕ) (text : List ℕ) (end : ℕ) → end ≡ position_or_len (λ b. b == separator) text → (end ≡ length text) ⊎ (end < length text)
    → (more : List (List ℕ)) × (parts separator text ≡ take end text ∷ more)
front_by separator text end is (inr within) = (parts separator (drop (end + 1) text), parts_first separator text end is within)
front_by separator text end is (inl whole) =
    let all : take end text ≡ text = take_all end text (omega arith) in
    ([], parts_last separator text end is whole ∙ ap (λ t. t ∷ []) (sym all))

-- the first part of a text
pub parts_front : (separator : ℕ) (text : List ℕ) (end : ℕ) → end ≡ position_or_len (λ b. b == separator) text → end ≤ length text
    → (more : List (List ℕ)) × (parts separator text ≡ take end text ∷ more)
parts_front separator text end is bound = front_by separator text end is (eq-or-lt_of_le bound)

-- what is summed of a text by its first part, after some octets
abbrev pub summed_after : ℕ → ℕ → ℕ → ℕ → List ℕ → Option Octets
summed_after base separator count value text = option_and_then (sum_after count value) (all_octets base (parts separator text))

pub no_octet : (base separator count value : ℕ) (text : List ℕ) (end : ℕ) → end ≡ position_or_len (λ b. b == separator) text → end ≤ length text
    → octet base (take end text) ≡ None → summed_after base separator count value text ≡ None
no_octet base separator count value text end is bound none =
    let front = parts_front separator text end is bound in
    rw (front.1, octets_none base (take end text) front.0 none) refl

pub octet_too_many : (base separator count value : ℕ) (text : List ℕ) (end n : ℕ) → end ≡ position_or_len (λ b. b == separator) text → end ≤ length text
    → octet base (take end text) ≡ Some n → count ≡ 6 → summed_after base separator count value text ≡ None
octet_too_many base separator count value text end n is bound some full =
    let front = parts_front separator text end is bound in
    rw (front.1, octets_first base (take end text) front.0 n some, full) (sum_full value n (all_octets base front.0))

pub one_octet : (base separator count value : ℕ) (text : List ℕ) (end n : ℕ) → end ≡ position_or_len (λ b. b == separator) text → end < length text
    → octet base (take end text) ≡ Some n → summed_after base separator count value text ≡ summed_after base separator (count + 1) (value * 256 + n) (drop (end + 1) text)
one_octet base separator count value text end n is within some =
    let more = parts separator (drop (end + 1) text) in
    rw (parts_first separator text end is within, octets_first base (take end text) more n some) (sum_more count value n (all_octets base more))

room : (count : ℕ) → count ≤ 5 → nat_le (count + 1 + 0) 6 ≡ true
room count few = grind (arith, nat_tests)

pub last_octet : (base separator count value : ℕ) (text : List ℕ) (end n : ℕ) → end ≡ position_or_len (λ b. b == separator) text → end ≡ length text
    → octet base (take end text) ≡ Some n → count ≤ 5 → summed_after base separator count value text ≡ Some (record { count = count + 1; value = value * 256 + n })
last_octet base separator count value text end n is whole some few =
    let all : take end text ≡ text = take_all end text (omega arith) in
    let none : count + 1 + 0 ≡ count + 1 = omega arith in
    rw (parts_last separator text end is whole, octets_first base text [] n (rw all at some))
    (sum_more count value n (Some []) ∙ (rw (room count few, none) refl))

-- an address of two, three or four octets
pub v4_two : (ns : List ℕ) → length ns ≡ 2 → v4_of ns ≡ Some (record { address = joined ns * 65536; bits = 16 })
v4_two ns is = rw is refl

pub v4_three : (ns : List ℕ) → length ns ≡ 3 → v4_of ns ≡ Some (record { address = joined ns * 256; bits = 24 })
v4_three ns is = rw is refl

pub v4_four : (ns : List ℕ) → length ns ≡ 4 → v4_of ns ≡ Some (record { address = joined ns * 1; bits = 32 })
v4_four ns is = rw is refl

pub v4_answer : (o : Option (List ℕ)) (found : Octets) (n factor bits : ℕ) (r : V4) → option_and_then (sum_after 0 0) o ≡ Some found → found.count ≡ n
    → ((ns : List ℕ) → length ns ≡ n → v4_of ns ≡ Some (record { address = joined ns * factor; bits = bits }))
    → r.address ≡ found.value * factor → r.bits ≡ bits → Some r ≡ option_and_then v4_of o
v4_answer o found n factor bits r is count here address_is bits_is =
    let some = summed_some o found is in
    let address : r.address ≡ joined some.0 * factor = address_is ∙ ap (λ v. v * factor) some.3 in
    let same : Some r ≡ Some (record { address = joined some.0 * factor; bits = bits }) =
    ap (λ a. Some (record { address = a; bits = r.bits })) address ∙ ap (λ b. Some (record { address = joined some.0 * factor; bits = b })) bits_is in
    same ∙ sym (here some.0 (sym some.2 ∙ count)) ∙ sym (ap (λ x. option_and_then v4_of x) some.1)

pub no_v4 : (o : Option (List ℕ)) (found : Octets) → option_and_then (sum_after 0 0) o ≡ Some found → found.count ≢ 2 → found.count ≢ 3 → found.count ≢ 4 → None ≡ option_and_then v4_of o
no_v4 o found is two three four =
    let some = summed_some o found is in
    sym (ap (λ x. option_and_then v4_of x) some.1 ∙ no_v4_of some.0 (λ e. two (some.2 ∙ e)) (λ e. three (some.2 ∙ e)) (λ e. four (some.2 ∙ e)))

mac_found : (o : Option (List ℕ)) (found : Octets) → option_and_then (sum_after 0 0) o ≡ Some found → (if found.count == 6 then Some found.value else None) ≡ option_and_then mac_of o
mac_found o found is =
    let some = summed_some o found is in
    ap (λ n. if n == 6 then Some found.value else None) some.2 ∙ ap (λ v. if length some.0 == 6 then Some v else None) some.3 ∙ sym (ap (λ x. option_and_then mac_of x) some.1)

then_some_if : (b : Bool) (v : ℕ) → then_some b v ≡ (if b then Some v else None)
then_some_if true v = refl
then_some_if false v = refl

pub mac_answer : (o : Option (List ℕ)) (found : Octets) → option_and_then (sum_after 0 0) o ≡ Some found → then_some (found.count == 6) found.value ≡ option_and_then mac_of o
mac_answer o found is = then_some_if (found.count == 6) found.value ∙ mac_found o found is
