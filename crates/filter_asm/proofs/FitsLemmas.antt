-- Operands are read as they fit the shapes.
use Rattle.std.proofs.Common.{◌≡◌, ℕ, zero, suc, ◌<◌, Bool, true, false, not, cond, List, [], ◌∷◌, ◌++◌, length, get_or, Option, Some, None, option_map, refl, sym, ap, ◌∙◌, subst, inl, inr, arith}
use Rattle.std.specs.Prelude.{◌&&◌, ◌||◌, ◌⊎◌, codes, slice_get}
use Rattle.std.specs.List.{AllZip, flat_map, find, list_all}
use Rattle.std.specs.Str.{bytes_eq}
use Rattle.std.proofs.lemmas.Bool.{cases_Bool, false≢true}
use Rattle.std.proofs.lemmas.Slice.Eq.{bytes_eq-Decides}
use Rattle.filter_asm.specs.Token.{is_name, is_digits}
use Rattle.filter_asm.specs.Operands.{Part, Exactly, Number, Label, Numeral, Operands, no_operands, with_number, with_label, number_at, operands_at}
use Rattle.filter_asm.specs.Mnemonics.{Shape, Mnemonic, mnemonics, mnemonic_of, first_fit}
use Rattle.filter_asm.specs.Fits.{Fits, Group, PartIs, spelled_number, ReadOperandsFit, FittingOperandsAreRead}

-- what stands at a part that operands were read by
record AtExactly (text : List ℕ) (parts : List Part) (tokens : List (List ℕ)) (o : Operands) : Type 0 where
  rest : List (List ℕ)
  spelled : tokens ≡ text ∷ rest
  more : operands_at parts rest ≡ Some o

record AtLabel (parts : List Part) (tokens : List (List ℕ)) (o : Operands) : Type 0 where
  name : List ℕ
  rest : List (List ℕ)
  others : Operands
  spelled : tokens ≡ name ∷ rest
  named : is_name name ≡ true
  more : operands_at parts rest ≡ Some others
  is : with_label name others ≡ o

record AtNumber (parts : List Part) (tokens : List (List ℕ)) (o : Operands) : Type 0 where
  n : Numeral
  rest : List (List ℕ)
  others : Operands
  found : number_at tokens ≡ Some (n, rest)
  more : operands_at parts rest ≡ Some others
  is : with_number n.negative n.digits others ≡ o

at_exactly : (text : List ℕ) (parts : List Part) (tokens : List (List ℕ)) (o : Operands) → operands_at (Exactly text ∷ parts) tokens ≡ Some o → AtExactly text parts tokens o
unfolding operands_at
at_exactly text parts [] o e = cc
at_exactly text parts (token ∷ tokens) o e = elim (cases_Bool (bytes_eq token text)) [
  | inl same ↦ let is : token ≡ text = (bytes_eq-Decides token text).0 same in record { rest = tokens; spelled = ap (λ (t : List ℕ). t ∷ tokens) is; more = rw same at e }
  | inr other ↦ let none = rw other at e in cc
]

mapped : {A B : Type 0} (f : A → B) (o : Option A) (y : B) → option_map f o ≡ Some y → (x : A) × (o ≡ Some x) × (f x ≡ y)
mapped f None y e = cc
mapped f (Some x) y e = (x, refl, cc)

at_label : (parts : List Part) (tokens : List (List ℕ)) (o : Operands) → operands_at (Label ∷ parts) tokens ≡ Some o → AtLabel parts tokens o
unfolding operands_at
at_label parts [] o e = cc
at_label parts (token ∷ tokens) o e = elim (cases_Bool (is_name token)) [
  | inl named ↦
      let given = rw named at e in
      let found = mapped (with_label token) (operands_at parts tokens) o given in
      record { name = token; rest = tokens; others = found.0; spelled = refl; named = named; more = found.1; is = found.2 }
  | inr other ↦ let none = rw other at e in cc
]

number_then : (parts : List Part) (tokens : List (List ℕ)) (o : Operands) (found : Option (Numeral × List (List ℕ))) → number_at tokens ≡ found → operands_at (Number ∷ parts) tokens ≡ Some o → AtNumber parts tokens o
unfolding operands_at
number_then parts tokens o None is e = let none = rw is at e in cc
number_then parts tokens o (Some x) is e =
    let given = rw is at e in
    let found = mapped (with_number x.0.negative x.0.digits) (operands_at parts x.1) o given in
    record { n = x.0; rest = x.1; others = found.0; found = is; more = found.1; is = found.2 }

at_number : (parts : List Part) (tokens : List (List ℕ)) (o : Operands) → operands_at (Number ∷ parts) tokens ≡ Some o → AtNumber parts tokens o
at_number parts tokens o e = number_then parts tokens o (number_at tokens) refl e

at_end : (tokens : List (List ℕ)) (o : Operands) → operands_at [] tokens ≡ Some o → (tokens ≡ []) × (no_operands ≡ o)
unfolding operands_at
at_end [] o e = (refl, cc)
at_end (token ∷ tokens) o e = cc

part_needs_token : (part : Part) (parts : List Part) (o : Operands) → operands_at (part ∷ parts) [] ≡ Some o → ⊥
unfolding operands_at
part_needs_token (Exactly text) parts o e = cc
part_needs_token Number parts o e = cc
part_needs_token Label parts o e = cc

some_is : {A : Type 0} (x y : A) → Some x ≡ Some y → x ≡ y
some_is x y e = cc

-- a number's tokens
record IsNumber (tokens : List (List ℕ)) (n : Numeral) (rest : List (List ℕ)) : Type 0 where
  digits : is_digits n.digits ≡ true
  spelled : tokens ≡ spelled_number n ++ rest

number_is : (tokens : List (List ℕ)) (n : Numeral) (rest : List (List ℕ)) → number_at tokens ≡ Some (n, rest) → IsNumber tokens n rest
number_is [] n rest e = cc
number_is (token ∷ []) n rest e = elim (cases_Bool (is_digits token)) [
  | inl digits ↦
      let given = rw digits at e in
      let plain : Numeral = record { negative = false; digits = token } in
      let same = some_is (plain, []) (n, rest) given in
      let is : plain ≡ n = ap (λ (x : Numeral × List (List ℕ)). x.0) same in
      let none : [] ≡ rest = ap (λ (x : Numeral × List (List ℕ)). x.1) same in
      subst (λ (m : Numeral). IsNumber (token ∷ []) m rest) is (record { digits = digits; spelled = ap (λ (r : List (List ℕ)). token ∷ r) none })
  | inr other ↦ let none = rw other at e in cc
]
number_is (token ∷ next ∷ tokens) n rest e = elim (cases_Bool (is_digits token)) [
  | inl digits ↦
      let given = rw digits at e in
      let plain : Numeral = record { negative = false; digits = token } in
      let same = some_is (plain, next ∷ tokens) (n, rest) given in
      let is : plain ≡ n = ap (λ (x : Numeral × List (List ℕ)). x.0) same in
      let more : next ∷ tokens ≡ rest = ap (λ (x : Numeral × List (List ℕ)). x.1) same in
      subst (λ (m : Numeral). IsNumber (token ∷ next ∷ tokens) m rest) is (record { digits = digits; spelled = ap (λ (r : List (List ℕ)). token ∷ r) more })
  | inr other ↦ elim (cases_Bool (bytes_eq token (codes "-"))) [
    | inl minus ↦ elim (cases_Bool (is_digits next)) [
      | inl digits ↦
          let given = rw (other, minus, digits) at e in
          let below : Numeral = record { negative = true; digits = next } in
          let same = some_is (below, tokens) (n, rest) given in
          let is : below ≡ n = ap (λ (x : Numeral × List (List ℕ)). x.0) same in
          let more : tokens ≡ rest = ap (λ (x : Numeral × List (List ℕ)). x.1) same in
          let sign : token ≡ codes "-" = (bytes_eq-Decides token (codes "-")).0 minus in
          subst (λ (m : Numeral). IsNumber (token ∷ next ∷ tokens) m rest) is (record { digits = digits; spelled = ap (λ (t : List ℕ). t ∷ next ∷ tokens) sign ∙ ap (λ (r : List (List ℕ)). codes "-" ∷ next ∷ r) more })
      | inr word ↦ let none = rw (other, minus, word) at e in cc
    ]
    | inr mark ↦ let none = rw (other, mark) at e in cc
  ]
]

-- what operands are read by fits
fits_from : (parts : List Part) (tokens : List (List ℕ)) (o : Operands) → operands_at parts tokens ≡ Some o → Fits parts tokens o
fits_from [] tokens o e =
    let none = at_end tokens o e in
    record { groups = []; each = tt; spelled = none.0; number = ap (λ (x : Operands). x.number) (sym none.1); first = ap (λ (x : Operands). x.first) (sym none.1); second = ap (λ (x : Operands). x.second) (sym none.1) }
fits_from (Exactly text ∷ parts) tokens o e =
    let at = at_exactly text parts tokens o e in
    let more = fits_from parts at.rest o at.more in
    record {
      groups = record { tokens = text ∷ []; numbers = []; labels = [] } ∷ more.groups;
      each = (refl, more.each);
      spelled = at.spelled ∙ ap (λ (r : List (List ℕ)). text ∷ r) more.spelled;
      number = more.number;
      first = more.first;
      second = more.second;
    }
fits_from (Number ∷ parts) tokens o e =
    let at = at_number parts tokens o e in
    let is = number_is tokens at.n at.rest at.found in
    let more = fits_from parts at.rest at.others at.more in
    record {
      groups = record { tokens = spelled_number at.n; numbers = at.n ∷ []; labels = [] } ∷ more.groups;
      each = ((at.n, is.digits, refl), more.each);
      spelled = is.spelled ∙ ap (λ (r : List (List ℕ)). spelled_number at.n ++ r) more.spelled;
      number = ap (λ (x : Operands). x.number) (sym at.is);
      first = ap (λ (x : Operands). x.first) (sym at.is) ∙ more.first;
      second = ap (λ (x : Operands). x.second) (sym at.is) ∙ more.second;
    }
fits_from (Label ∷ parts) tokens o e =
    let at = at_label parts tokens o e in
    let more = fits_from parts at.rest at.others at.more in
    record {
      groups = record { tokens = at.name ∷ []; numbers = []; labels = at.name ∷ [] } ∷ more.groups;
      each = ((at.name, at.named, refl), more.each);
      spelled = at.spelled ∙ ap (λ (r : List (List ℕ)). at.name ∷ r) more.spelled;
      number = ap (λ (x : Operands). x.number) (sym at.is) ∙ more.number;
      first = ap (λ (x : Operands). x.first) (sym at.is);
      second = ap (λ (x : Operands). x.second) (sym at.is) ∙ more.first;
    }

-- what groups hold
abbrev held : List Group → Operands
held groups = record {
  number = slice_get (flat_map (λ g. g.numbers) groups) 0;
  first = slice_get (flat_map (λ g. g.labels) groups) 0;
  second = slice_get (flat_map (λ g. g.labels) groups) 1;
}

abbrev spelled_by : List Group → List (List ℕ)
spelled_by groups = flat_map (λ g. g.tokens) groups

by_sign : (negative : Bool) (digits : List ℕ) (rest : List (List ℕ)) → is_digits digits ≡ true → number_at (spelled_number (record { negative = negative; digits = digits }) ++ rest) ≡ Some (record { negative = negative; digits = digits }, rest)
by_sign false digits [] e = rw e refl
by_sign false digits (next ∷ rest) e = rw e refl
by_sign true digits rest e = rw e refl

exactly_read : (text : List ℕ) (parts : List Part) (rest : List (List ℕ)) (o : Operands) → operands_at parts rest ≡ Some o → operands_at (Exactly text ∷ parts) (text ∷ rest) ≡ Some o
unfolding operands_at
exactly_read text parts rest o more = let same : bytes_eq text text ≡ true = (bytes_eq-Decides text text).1 refl in rw same more

label_read : (name : List ℕ) (parts : List Part) (rest : List (List ℕ)) (o : Operands) → is_name name ≡ true → operands_at parts rest ≡ Some o → operands_at (Label ∷ parts) (name ∷ rest) ≡ Some (with_label name o)
unfolding operands_at
label_read name parts rest o named more = rw (named, more) refl

number_read : (n : Numeral) (parts : List Part) (rest : List (List ℕ)) (o : Operands) → is_digits n.digits ≡ true → operands_at parts rest ≡ Some o → operands_at (Number ∷ parts) (spelled_number n ++ rest) ≡ Some (with_number n.negative n.digits o)
unfolding operands_at
number_read n parts rest o digits more = rw (by_sign n.negative n.digits rest digits, more) refl

-- groups that fit are read
groups_read : (parts : List Part) (groups : List Group) → AllZip PartIs parts groups → operands_at parts (spelled_by groups) ≡ Some (held groups)
unfolding operands_at
groups_read [] [] each = refl
groups_read [] (g ∷ groups) each = absurd each
groups_read (Exactly text ∷ parts) [] each = absurd each
groups_read (Number ∷ parts) [] each = absurd each
groups_read (Label ∷ parts) [] each = absurd each
groups_read (Exactly text ∷ parts) (g ∷ groups) each =
    let P : Group → Type 0 = λ h. operands_at (Exactly text ∷ parts) (spelled_by (h ∷ groups)) ≡ Some (held (h ∷ groups)) in
    subst P (sym each.0) (exactly_read text parts (spelled_by groups) (held groups) (groups_read parts groups each.1))
groups_read (Number ∷ parts) (g ∷ groups) each =
    let P : Group → Type 0 = λ h. operands_at (Number ∷ parts) (spelled_by (h ∷ groups)) ≡ Some (held (h ∷ groups)) in
    subst P (sym each.0.2) (number_read each.0.0 parts (spelled_by groups) (held groups) each.0.1 (groups_read parts groups each.1))
groups_read (Label ∷ parts) (g ∷ groups) each =
    let P : Group → Type 0 = λ h. operands_at (Label ∷ parts) (spelled_by (h ∷ groups)) ≡ Some (held (h ∷ groups)) in
    subst P (sym each.0.2) (label_read each.0.0 parts (spelled_by groups) (held groups) each.0.1 (groups_read parts groups each.1))

same_operands : (o p : Operands) → o.number ≡ p.number → o.first ≡ p.first → o.second ≡ p.second → o ≡ p
same_operands o p a b c =
    let given : Operands = record { number = o.number; first = o.first; second = o.second } in
    let first_changed : given ≡ record given { number = p.number } = ap (λ (x : Option Numeral). record given { number = x }) a in
    let next : Operands = record given { number = p.number } in
    let second_changed : next ≡ record next { first = p.first } = ap (λ (x : Option (List ℕ)). record next { first = x }) b in
    let last : Operands = record next { first = p.first } in
    let third_changed : last ≡ p = ap (λ (x : Option (List ℕ)). record last { second = x }) c in
    first_changed ∙ second_changed ∙ third_changed

-- tokens that fit are read
fit_read : (parts : List Part) (tokens : List (List ℕ)) (o : Operands) → Fits parts tokens o → operands_at parts tokens ≡ Some o
fit_read parts tokens o fits =
    let same = same_operands o (held fits.groups) fits.number fits.first fits.second in
    ap (λ (ts : List (List ℕ)). operands_at parts ts) fits.spelled ∙ groups_read parts fits.groups fits.each ∙ ap (λ (x : Operands). Some x) (sym same)

-- no tokens fit both: a test that reads the parts alone
abbrev apart : List Part → List Part → Bool
apart [] [] = false
apart [] (part ∷ parts) = true
apart (part ∷ parts) [] = true
apart (Exactly a ∷ parts) (Exactly b ∷ others) = cond (bytes_eq a b) (apart parts others) true
apart (Exactly a ∷ parts) (Number ∷ others) = not (is_digits a || bytes_eq a (codes "-"))
apart (Number ∷ parts) (Exactly b ∷ others) = not (is_digits b || bytes_eq b (codes "-"))
apart (Number ∷ parts) (Number ∷ others) = apart parts others
apart (Label ∷ parts) (Label ∷ others) = apart parts others
apart (Exactly a ∷ parts) (Label ∷ others) = false
apart (Label ∷ parts) (Exactly b ∷ others) = false
apart (Number ∷ parts) (Label ∷ others) = false
apart (Label ∷ parts) (Number ∷ others) = false

-- a number begins with digits or `-`
begins_number : (a : List ℕ) (rest : List (List ℕ)) (x : Numeral × List (List ℕ)) → number_at (a ∷ rest) ≡ Some x → not (is_digits a || bytes_eq a (codes "-")) ≡ false
begins_number a [] x e = elim (cases_Bool (is_digits a)) [
  | inl digits ↦ rw digits refl
  | inr other ↦ let none = rw other at e in cc
]
begins_number a (next ∷ rest) x e = elim (cases_Bool (is_digits a)) [
  | inl digits ↦ rw digits refl
  | inr other ↦ elim (cases_Bool (bytes_eq a (codes "-"))) [
    | inl minus ↦ rw (other, minus) refl
    | inr mark ↦ let none = rw (other, mark) at e in cc
  ]
]

both_read : (a : List ℕ) (rest tokens : List (List ℕ)) (x : Numeral × List (List ℕ)) → tokens ≡ a ∷ rest → number_at tokens ≡ Some x → not (is_digits a || bytes_eq a (codes "-")) ≡ true → ⊥
both_read a rest tokens x is found begins = false≢true (sym (begins_number a rest x (ap number_at (sym is) ∙ found)) ∙ begins)

clash : (parts others : List Part) (tokens : List (List ℕ)) (o p : Operands) → apart parts others ≡ true → operands_at parts tokens ≡ Some o → operands_at others tokens ≡ Some p → ⊥
clash [] [] tokens o p e one two = false≢true e
clash [] (part ∷ others) tokens o p e one two = part_needs_token part others p (ap (operands_at (part ∷ others)) (sym (at_end tokens o one).0) ∙ two)
clash (Exactly a ∷ parts) [] tokens o p e one two = part_needs_token (Exactly a) parts o (ap (operands_at (Exactly a ∷ parts)) (sym (at_end tokens p two).0) ∙ one)
clash (Number ∷ parts) [] tokens o p e one two = part_needs_token Number parts o (ap (operands_at (Number ∷ parts)) (sym (at_end tokens p two).0) ∙ one)
clash (Label ∷ parts) [] tokens o p e one two = part_needs_token Label parts o (ap (operands_at (Label ∷ parts)) (sym (at_end tokens p two).0) ∙ one)
clash (Exactly a ∷ parts) (Exactly b ∷ others) tokens o p e one two =
    let here = at_exactly a parts tokens o one in
    let there = at_exactly b others tokens p two in
    let joined : a ∷ here.rest ≡ b ∷ there.rest = sym here.spelled ∙ there.spelled in
    let same : a ≡ b = cc in
    let rest : here.rest ≡ there.rest = cc in
    let tested : bytes_eq a b ≡ true = (bytes_eq-Decides a b).1 same in
    clash parts others here.rest o p (rw tested at e) here.more (ap (operands_at others) rest ∙ there.more)
clash (Exactly a ∷ parts) (Number ∷ others) tokens o p e one two =
    let here = at_exactly a parts tokens o one in
    let there = at_number others tokens p two in
    both_read a here.rest tokens (there.n, there.rest) here.spelled there.found e
clash (Number ∷ parts) (Exactly b ∷ others) tokens o p e one two =
    let here = at_number parts tokens o one in
    let there = at_exactly b others tokens p two in
    both_read b there.rest tokens (here.n, here.rest) there.spelled here.found e
clash (Number ∷ parts) (Number ∷ others) tokens o p e one two =
    let here = at_number parts tokens o one in
    let there = at_number others tokens p two in
    let same = some_is (here.n, here.rest) (there.n, there.rest) (sym here.found ∙ there.found) in
    let rest : here.rest ≡ there.rest = ap (λ (x : Numeral × List (List ℕ)). x.1) same in
    clash parts others here.rest here.others there.others e here.more (ap (operands_at others) rest ∙ there.more)
clash (Label ∷ parts) (Label ∷ others) tokens o p e one two =
    let here = at_label parts tokens o one in
    let there = at_label others tokens p two in
    let joined : here.name ∷ here.rest ≡ there.name ∷ there.rest = sym here.spelled ∙ there.spelled in
    let rest : here.rest ≡ there.rest = cc in
    clash parts others here.rest here.others there.others e here.more (ap (operands_at others) rest ∙ there.more)
clash (Exactly a ∷ parts) (Label ∷ others) tokens o p e one two = false≢true e
clash (Label ∷ parts) (Exactly b ∷ others) tokens o p e one two = false≢true e
clash (Number ∷ parts) (Label ∷ others) tokens o p e one two = false≢true e
clash (Label ∷ parts) (Number ∷ others) tokens o p e one two = false≢true e

-- each two of the shapes are apart
abbrev all_apart : List Shape → Bool
all_apart [] = true
all_apart (shape ∷ shapes) = list_all (λ other. apart shape.parts other.parts) shapes && all_apart shapes

table_apart : list_all (λ m. all_apart m.shapes) mnemonics ≡ true
table_apart = refl

pub both : (a b : Bool) → (a && b) ≡ true → (a ≡ true) × (b ≡ true)
both true b e = (refl, e)
both false b e = absurd (false≢true e)

found_passes : (p q : Mnemonic → Bool) (ms : List Mnemonic) (m : Mnemonic) → find p ms ≡ Some m → list_all q ms ≡ true → q m ≡ true
found_passes p q [] m e all = cc
found_passes p q (first ∷ ms) m e all =
    let parts = both (q first) (list_all q ms) all in
    elim (cases_Bool (p first)) [
      | inl here ↦ let found = rw here at e in let is = some_is first m found in subst (λ (x : Mnemonic). q x ≡ true) is parts.0
      | inr there ↦ found_passes p q ms m (rw there at e) parts.1
    ]

contained_passes : (q : Shape → Bool) (shapes : List Shape) (shape : Shape) (k : ℕ) → k < length shapes → get_or shapes k shape ≡ shape → list_all q shapes ≡ true → q shape ≡ true
contained_passes q [] shape k lt is all = absurd (omega arith)
contained_passes q (first ∷ shapes) shape zero lt is all = subst (λ (x : Shape). q x ≡ true) is (both (q first) (list_all q shapes) all).0
contained_passes q (first ∷ shapes) shape (suc k) lt is all = contained_passes q shapes shape k (omega arith) is (both (q first) (list_all q shapes) all).1

first_by : (first : Shape) (shapes : List Shape) (tokens : List (List ℕ)) (found : Option Operands) (given : Option (ℕ × Operands)) → operands_at first.parts tokens ≡ found
    → ((o : Operands) → found ≡ Some o → ⊥) → first_fit shapes tokens ≡ given → first_fit (first ∷ shapes) tokens ≡ given
first_by first shapes tokens None given is not_here rest = rw is rest
first_by first shapes tokens (Some o) given is not_here rest = absurd (not_here o refl)

read_first : (shapes : List Shape) (shape : Shape) (k : ℕ) (tokens : List (List ℕ)) (o : Operands) → all_apart shapes ≡ true → k < length shapes → get_or shapes k shape ≡ shape → operands_at shape.parts tokens ≡ Some o
    → first_fit shapes tokens ≡ Some (shape.code, o)
read_first [] shape k tokens o all lt is read = absurd (omega arith)
read_first (first ∷ shapes) shape zero tokens o all lt is read =
    let P : Shape → Type 0 = λ s. operands_at s.parts tokens ≡ Some o in
    let here : operands_at first.parts tokens ≡ Some o = subst P (sym is) read in
    rw here (ap (λ (s : Shape). Some (s.code, o)) is)
read_first (first ∷ shapes) shape (suc k) tokens o all lt is read =
    let parts = both (list_all (λ other. apart first.parts other.parts) shapes) (all_apart shapes) all in
    let away = contained_passes (λ other. apart first.parts other.parts) shapes shape k (omega arith) is parts.0 in
    let further = read_first shapes shape k tokens o parts.1 (omega arith) is read in
    first_by first shapes tokens (operands_at first.parts tokens) (Some (shape.code, o)) refl (λ p here. clash first.parts shape.parts tokens p o away here read) further

pub fitting_operands_are_read : FittingOperandsAreRead
unfolding mnemonic_of
fitting_operands_are_read word m known shape among tokens o fits =
    let all = found_passes (λ x. bytes_eq x.word word) (λ x. all_apart x.shapes) mnemonics m known table_apart in
    read_first m.shapes shape among.0 tokens o all among.1 among.2 (fit_read shape.parts tokens o fits)

fit_by : (first : Shape) (shapes : List Shape) (tokens : List (List ℕ)) (code : ℕ) (o : Operands) (found : Option Operands) → operands_at first.parts tokens ≡ found → first_fit (first ∷ shapes) tokens ≡ Some (code, o)
    → ((found ≡ None) × (first_fit shapes tokens ≡ Some (code, o))) ⊎ ((first.code ≡ code) × (operands_at first.parts tokens ≡ Some o))
fit_by first shapes tokens code o None is e = inl (refl, rw is at e)
fit_by first shapes tokens code o (Some p) is e =
    let given = rw is at e in
    let same = some_is (first.code, p) (code, o) given in
    inr (ap (λ (x : ℕ × Operands). x.0) same, is ∙ ap (λ (x : ℕ × Operands). Some x.1) same)

pub read_operands_fit : ReadOperandsFit
read_operands_fit [] tokens code o e = cc
read_operands_fit (first ∷ shapes) tokens code o e = elim (fit_by first shapes tokens code o (operands_at first.parts tokens) refl e) [
  | inl there ↦
      let more = read_operands_fit shapes tokens code o there.1 in
      (more.0, (suc more.1.0, omega (arith, more.1.1), more.1.2), more.2, more.3)
  | inr here ↦ (first, (0, omega arith, refl), here.0, fits_from first.parts tokens o here.1)
]
