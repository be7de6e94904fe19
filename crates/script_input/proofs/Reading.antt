-- Inputs that are read one after the other.
use Rattle.std.proofs.Common.{◌≡◌, ◌≢◌, ◌<◌, ◌≤◌, ℕ, zero, suc, true, false, Option, Some, None, List, [], ◌∷◌, ◌++◌, length, slice_get, slice_set, take, ◌⊎◌, refl, ap, sym, subst, ◌∙◌, inl, inr, arith, length-append}
use Rattle.std.proofs.lemmas.Bool.{cases_eq, cases_lt}
use Rattle.std.proofs.lemmas.Option.{slice_get_within}
use Rattle.engine_io.specs.declared.fault.EngineFault.{EngineFault}
use Rattle.engine_io.specs.declared.fault.EngineFault.TheVariants.{ReadFailed, WriteFailed, NoMemory}
use Rattle.engine_io.specs.declared.input.TheConstants.{INPUT_BYTES, INPUT_READS}
use Rattle.engine_io.specs.declared.source.Source.{Source}
use Rattle.engine_io.specs.declared.sink.Sink.{Sink}
use Rattle.engine_io.specs.Devices.{EndsEarly, IsFresh, IsReadThrough, StopsReading}
use Rattle.engine_io.specs.Reading.{IsInput, IsKnown}
use Rattle.script_input.specs.Inputs.{AllFresh, AllShort, AllWithin, AreInputs, AreKnown, AreReadInOrder, Kept, LongAmong, NoneFailed, OneLonger, ScriptEndsEarly, SomeLong, StopsFiles, had}

some_input : (known : Option (List ℕ)) → (input : List ℕ) × IsKnown known input
some_input None = ([], cc)
some_input (Some bytes) = (bytes, refl)

pub some_inputs : (known : List (Option (List ℕ))) → (inputs : List (List ℕ)) × AreKnown known inputs
some_inputs [] = ([], cc)
some_inputs (k ∷ ks) = let first = some_input k in let rest = some_inputs ks in (first.0 ∷ rest.0, (first.1, rest.1))

inputs_push : (known : List (Option (List ℕ))) (inputs : List (List ℕ)) (k : Option (List ℕ)) (input : List ℕ) → AreKnown known inputs → IsKnown k input → AreKnown (known ++ k ∷ []) (inputs ++ input ∷ [])
inputs_push [] [] k input are is = (is, cc)
inputs_push [] (i ∷ is) k input are is' = absurd are
inputs_push (k' ∷ ks) [] k input are is = absurd are
inputs_push (k' ∷ ks) (i ∷ is) k input are is' = (are.0, inputs_push ks is k input are.1 is')

within_push : (inputs : List (List ℕ)) (input : List ℕ) → AllWithin inputs → length input ≤ INPUT_BYTES → AllWithin (inputs ++ input ∷ [])
within_push [] input all le = (le, cc)
within_push (i ∷ is) input all le = (all.0, within_push is input all.1 le)

longer_last : (known : List (Option (List ℕ))) (inputs : List (List ℕ)) (input : List ℕ) → AreKnown known inputs → INPUT_BYTES < length input → OneLonger (inputs ++ input ∷ [])
longer_last known inputs input are lt = (length inputs, input, at inputs, lt)
  where
    at : (is : List (List ℕ)) → slice_get (is ++ input ∷ []) (length is) ≡ Some input
    at [] = refl
    at (i ∷ is) = at is

-- Files that are read one after the other

set_here : {A : Type 0} (xs : List A) (k : ℕ) (y : A) → k < length xs → slice_get (slice_set xs k y) k ≡ Some y
set_here [] k y lt = absurd (omega arith)
set_here (x ∷ xs) zero y lt = refl
set_here (x ∷ xs) (suc k) y lt = set_here xs k y (omega arith)

set_other : {A : Type 0} (xs : List A) (i k : ℕ) (y : A) → k ≢ i → slice_get (slice_set xs i y) k ≡ slice_get xs k
set_other [] i k y ne = refl
set_other (x ∷ xs) zero zero y ne = absurd (ne refl)
set_other (x ∷ xs) zero (suc k) y ne = refl
set_other (x ∷ xs) (suc i) zero y ne = refl
set_other (x ∷ xs) (suc i) (suc k) y ne = set_other xs i k y (λ e. ne (ap suc e))

set_length : {A : Type 0} (xs : List A) (i : ℕ) (y : A) → length (slice_set xs i y) ≡ length xs
set_length [] i y = refl
set_length (x ∷ xs) zero y = refl
set_length (x ∷ xs) (suc i) y = ap suc (set_length xs i y)

cc_some : {A : Type 0} {x y : A} → Some x ≡ Some y → x ≡ y
cc_some e = cc

-- the files before this place were read to their ends and are kept, and the others were not read
pub record ReadUpTo {F : Type 0} (remaining : F → Option (List ℕ)) (old now : List (Source F)) (held : List (List ℕ)) (place : ℕ) : Type 0 where
  pub same_length : length now ≡ length old
  pub inputs : AreKnown (take place (had remaining old)) held
  pub count : length held ≡ place
  pub got : (k : ℕ) (file file' : Source F) (input : List ℕ) → slice_get old k ≡ Some file → slice_get now k ≡ Some file' → slice_get held k ≡ Some input → IsInput remaining file file' input
  pub within : AllWithin held
  pub ended : (earlier : ℕ) (file : Source F) → earlier < place → slice_get now earlier ≡ Some file → (file.ended ≡ true) × (file.failed ≡ false)
  pub later : (k : ℕ) → place ≤ k → slice_get now k ≡ slice_get old k

pub read_none : {F : Type 0} (remaining : F → Option (List ℕ)) (files : List (Source F)) → ReadUpTo remaining files files [] 0
read_none remaining files = record { same_length = refl; inputs = tt; count = refl; got = λ k file file' input a b c. absurd cc; within = tt; ended = λ earlier file lt. absurd (omega arith); later = λ k le. refl }

-- what the reader at a place has
had_here : {F : Type 0} (remaining : F → Option (List ℕ)) (files : List (Source F)) (place : ℕ) (file : Source F) → slice_get files place ≡ Some file
    → take (suc place) (had remaining files) ≡ take place (had remaining files) ++ remaining file.inner ∷ []
had_here remaining [] place file at = absurd cc
had_here remaining (f ∷ files) zero file at = let same : f ≡ file = cc in ap (λ (g : Source _). remaining g.inner ∷ []) same
had_here remaining (f ∷ files) (suc place) file at = ap (λ (known : List (Option (List ℕ))). remaining f.inner ∷ known) (had_here remaining files place file at)

-- what the readers from a place on have, whatever that is
had_rest : {F : Type 0} (remaining : F → Option (List ℕ)) (files : List (Source F)) (place : ℕ) (inputs : List (List ℕ)) → AreKnown (take place (had remaining files)) inputs
    → (more : List (List ℕ)) × AreKnown (had remaining files) (inputs ++ more)
had_rest remaining files zero [] are = some_inputs (had remaining files)
had_rest remaining files zero (i ∷ is) are = absurd are
had_rest remaining [] (suc place) [] are = ([], tt)
had_rest remaining [] (suc place) (i ∷ is) are = absurd are
had_rest remaining (f ∷ files) (suc place) [] are = absurd are
had_rest remaining (f ∷ files) (suc place) (i ∷ is) are = let rest = had_rest remaining files place is are.1 in (rest.0, (are.0, rest.1))

last_at : {A : Type 0} (xs : List A) (x : A) (place : ℕ) → length xs ≡ place → slice_get (xs ++ x ∷ []) place ≡ Some x
last_at [] x zero e = refl
last_at [] x (suc place) e = absurd (omega (arith, e))
last_at (y ∷ xs) x zero e = absurd (omega (arith, e))
last_at (y ∷ xs) x (suc place) e = last_at xs x place (omega (arith, e))

longer_more : (inputs more : List (List ℕ)) → OneLonger inputs → OneLonger (inputs ++ more)
longer_more inputs more long = (long.0, long.1, front inputs long.0 long.2, long.3)
  where
    front : (is : List (List ℕ)) (k : ℕ) → slice_get is k ≡ Some long.1 → slice_get (is ++ more) k ≡ Some long.1
    front [] k h = absurd cc
    front (i ∷ is) zero h = h
    front (i ∷ is) (suc k) h = front is k h

-- what stands in a list with one item more
push_at : {A : Type 0} (xs : List A) (x y : A) (k : ℕ) → slice_get (xs ++ x ∷ []) k ≡ Some y → (slice_get xs k ≡ Some y) ⊎ ((k ≡ length xs) × (x ≡ y))
push_at [] x y zero e = inr (refl, cc_some e)
push_at [] x y (suc k) e = absurd cc
push_at (z ∷ xs) x y zero e = inl e
push_at (z ∷ xs) x y (suc k) e = elim (push_at xs x y k e) [ inl there ↦ inl there | inr last ↦ inr (ap suc last.0, last.1) ]

-- the input at the place was got, and so were those before it
got_push : {F : Type 0} (remaining : F → Option (List ℕ)) (old now : List (Source F)) (held : List (List ℕ)) (place : ℕ) (file file' : Source F) (kept : List ℕ)
    → ReadUpTo remaining old now held place → slice_get now place ≡ Some file → IsInput remaining file file' kept
    → (k : ℕ) (f f' : Source F) (input : List ℕ) → slice_get old k ≡ Some f → slice_get (slice_set now place file') k ≡ Some f' → slice_get (held ++ kept ∷ []) k ≡ Some input → IsInput remaining f f' input
got_push remaining old now held place file file' kept upto at is k f f' input a b c = elim (push_at held kept input k c) [
  | inl there ↦
      let before : k < place = omega (arith, slice_get_within held k input there, upto.count) in
      upto.got k f f' input a (sym (set_other now place k file' (λ e. absurd (omega arith))) ∙ b) there
  | inr last ↦
      let here : k ≡ place = last.0 ∙ upto.count in
      let old_at : slice_get old place ≡ Some f = subst (λ (n : ℕ). slice_get old n ≡ Some f) here a in
      let new_at : slice_get (slice_set now place file') place ≡ Some f' = subst (λ (n : ℕ). slice_get (slice_set now place file') n ≡ Some f') here b in
      let same : file ≡ f = cc_some (sym at ∙ upto.later place (omega arith) ∙ old_at) in
      let same' : file' ≡ f' = cc_some (sym (set_here now place file' (slice_get_within now place file at)) ∙ new_at) in
      subst (λ (g : Source _). IsInput remaining g f' input) same (subst (λ (g : Source _). IsInput remaining file g input) same' (subst (λ (i : List ℕ). IsInput remaining file file' i) last.1 is))
]

-- one file more is read to its end and kept
pub read_more : {F : Type 0} (remaining : F → Option (List ℕ)) (old now : List (Source F)) (held held' : List (List ℕ)) (place : ℕ) (file file' : Source F)
    → ReadUpTo remaining old now held place → slice_get now place ≡ Some file → Kept remaining file file' held held' true → IsReadThrough file' INPUT_BYTES true
    → ReadUpTo remaining old (slice_set now place file') held' (suc place)
read_more remaining old now held held' place file file' upto at kept through = record {
  same_length = set_length now place file' ∙ upto.same_length;
  inputs = rw (kept.1, had_here remaining old place file (sym (upto.later place (omega arith)) ∙ at)) (inputs_push (take place (had remaining old)) held (remaining file.inner) kept.0 upto.inputs kept.2.0);
  count = omega (arith, ap length kept.1, length-append held (kept.0 ∷ []), upto.count);
  got = λ k f f' input a b c. got_push remaining old now held place file file' kept.0 upto at kept.2 k f f' input a b (subst (λ (xs : List (List ℕ)). slice_get xs k ≡ Some input) kept.1 c);
  within = rw kept.1 (within_push held kept.0 upto.within kept.3);
  ended = λ earlier f lt there. elim (cases_eq earlier place) [
    | inl same ↦
        let here = subst (λ (k : ℕ). slice_get (slice_set now place file') k ≡ Some f) same there in
        let is : file' ≡ f = cc_some (sym (set_here now place file' (slice_get_within now place file at)) ∙ here) in
        subst (λ (g : Source _). (g.ended ≡ true) × (g.failed ≡ false)) is (through.1, through.0)
    | inr other ↦ upto.ended earlier f (omega arith) (sym (set_other now place earlier file' other) ∙ there)
  ];
  later = λ k le. set_other now place k file' (λ e. absurd (omega arith)) ∙ upto.later k (omega arith);
}

-- all are read
take_had : {F : Type 0} (remaining : F → Option (List ℕ)) (files : List (Source F)) (place : ℕ) → length files ≤ place → take place (had remaining files) ≡ had remaining files
take_had remaining [] zero le = refl
take_had remaining [] (suc place) le = refl
take_had remaining (f ∷ files) zero le = absurd (omega arith)
take_had remaining (f ∷ files) (suc place) le = ap (λ (known : List (Option (List ℕ))). remaining f.inner ∷ known) (take_had remaining files place (omega arith))

pub read_all : {F : Type 0} (remaining : F → Option (List ℕ)) (old now : List (Source F)) (held : List (List ℕ)) (place : ℕ) → ReadUpTo remaining old now held place → length old ≤ place
    → AreInputs remaining old now held × AllWithin held
read_all remaining old now held place upto le = (
  (
    subst (λ (known : List (Option (List ℕ))). AreKnown known held) (take_had remaining old place le) upto.inputs,
    record { same = upto.same_length; each = λ k f f' input a b c within. upto.got k f f' input a b c },
  ),
  upto.within,
)

front_at : {A : Type 0} (xs ys : List A) (k : ℕ) → k < length xs → slice_get (xs ++ ys) k ≡ slice_get xs k
front_at [] ys k lt = absurd (omega arith)
front_at (x ∷ xs) ys zero lt = refl
front_at (x ∷ xs) ys (suc k) lt = front_at xs ys k (omega arith)

-- of inputs that are within the limit none is longer
none_before : (inputs : List (List ℕ)) (k place : ℕ) (input : List ℕ) → place < k → slice_get inputs place ≡ Some input → AllWithin (take k inputs) → length input ≤ INPUT_BYTES
none_before inputs zero place input lt at all = absurd (omega arith)
none_before [] (suc k) place input lt at all = absurd cc
none_before (i ∷ is) (suc k) zero input lt at all = let same : i ≡ input = cc_some at in omega (arith, ap length same, all.0)
none_before (i ∷ is) (suc k) (suc place) input lt at all = none_before is k place input (omega arith) at all.1

-- the file at a place is too long
pub read_long : {F : Type 0} (remaining : F → Option (List ℕ)) (old now : List (Source F)) (held held' : List (List ℕ)) (place : ℕ) (file file' : Source F)
    → ReadUpTo remaining old now held place → slice_get now place ≡ Some file → Kept remaining file file' held held' false → LongAmong remaining old (slice_set now place file')
read_long remaining old now held held' place file file' upto at kept =
    let input = kept.1 in
    let known = take place (had remaining old) in
    let here = inputs_push known held (remaining file.inner) input.0 upto.inputs input.1.0 in
    let all = had_rest remaining old (suc place) (held ++ input.0 ∷ [])
    (subst (λ (k : List (Option (List ℕ))). AreKnown k (held ++ input.0 ∷ [])) (sym (had_here remaining old place file (sym (upto.later place (omega arith)) ∙ at))) here) in (
      (held ++ input.0 ∷ []) ++ all.0,
      (all.1, record { same = set_length now place file' ∙ upto.same_length; each = λ k f f' i a b c within. long_got remaining old now held place file file' input.0 all.0 upto at input.1 input.2 k f f' i a b c within }),
      longer_more (held ++ input.0 ∷ []) all.0 (longer_last known held input.0 upto.inputs input.2),
    )
  where
    long_got : {F : Type 0} (remaining : F → Option (List ℕ)) (old now : List (Source F)) (held : List (List ℕ)) (place : ℕ) (file file' : Source F) (kept : List ℕ) (more : List (List ℕ))
        → ReadUpTo remaining old now held place → slice_get now place ≡ Some file → IsInput remaining file file' kept → INPUT_BYTES < length kept
        → (k : ℕ) (f f' : Source F) (input : List ℕ) → slice_get old k ≡ Some f → slice_get (slice_set now place file') k ≡ Some f' → slice_get ((held ++ kept ∷ []) ++ more) k ≡ Some input
        → AllWithin (take k ((held ++ kept ∷ []) ++ more)) → IsInput remaining f f' input
    long_got remaining old now held place file file' kept more upto at is long k f f' input a b c within = elim (cases_lt place k) [
      | inl after ↦
          let there : slice_get ((held ++ kept ∷ []) ++ more) place ≡ Some kept = front_at (held ++ kept ∷ []) more place (omega (arith, length-append held (kept ∷ []), upto.count)) ∙ last_at held kept place upto.count in
          absurd (omega (arith, long, none_before ((held ++ kept ∷ []) ++ more) k place kept after there within))
      | inr upto_here ↦
          let inside : k < length (held ++ kept ∷ []) = omega (arith, length-append held (kept ∷ []), upto.count, upto_here) in
          got_push remaining old now held place file file' kept upto at is k f f' input a b (sym (front_at (held ++ kept ∷ []) more k inside) ∙ c)
    ]

-- whatever came of the file at a place, the files are read in order
pub in_order_at : {F : Type 0} (remaining : F → Option (List ℕ)) (old now : List (Source F)) (held : List (List ℕ)) (place : ℕ) (file : Source F)
    → ReadUpTo remaining old now held place → AreReadInOrder old (slice_set now place file)
in_order_at remaining old now held place file upto = record {
  place = place;
  before = λ earlier f lt there. (upto.ended earlier f lt (sym (set_other now place earlier file (λ e. absurd (omega arith))) ∙ there)).0;
  after = λ later lt. set_other now place later file (λ e. absurd (omega arith)) ∙ upto.later later (omega arith);
}

pub in_order : {F : Type 0} (remaining : F → Option (List ℕ)) (old now : List (Source F)) (held : List (List ℕ)) (place : ℕ) → ReadUpTo remaining old now held place → AreReadInOrder old now
in_order remaining old now held place upto = record { place = place; before = λ earlier f lt there. (upto.ended earlier f lt there).0; after = λ later lt. upto.later later (omega arith) }

-- no file failed before, and not the one at the place
pub none_failed_at : {F : Type 0} (remaining : F → Option (List ℕ)) (old now : List (Source F)) (held : List (List ℕ)) (place : ℕ) (file : Source F)
    → AllFresh old → ReadUpTo remaining old now held place → file.failed ≡ false → NoneFailed (slice_set now place file)
none_failed_at remaining old now held place file fresh upto good = λ k f there. elim (cases_lt k place) [
  | inl before ↦ (upto.ended k f before (sym (set_other now place k file (λ e. absurd (omega arith))) ∙ there)).1
  | inr from ↦ elim (cases_eq k place) [
    | inl same ↦
        let here = subst (λ (n : ℕ). slice_get (slice_set now place file) n ≡ Some f) same there in
        let inside : place < length now = omega (arith, slice_get_within (slice_set now place file) place f here, set_length now place file) in
        let is : file ≡ f = cc_some (sym (set_here now place file inside) ∙ here) in
        subst (λ (g : Source _). g.failed ≡ false) is good
    | inr other ↦ (fresh k f (sym (upto.later k from) ∙ (sym (set_other now place k file other) ∙ there))).2.1
  ]
]

pub none_failed : {F : Type 0} (remaining : F → Option (List ℕ)) (old now : List (Source F)) (held : List (List ℕ)) (place : ℕ) → AllFresh old → ReadUpTo remaining old now held place → NoneFailed now
none_failed remaining old now held place fresh upto = λ k f there. elim (cases_lt k place) [
  | inl before ↦ (upto.ended k f before there).1
  | inr from ↦ (fresh k f (sym (upto.later k from) ∙ there)).2.1
]

-- why the file at a place isn't read through is why the files aren't
pub stops_at : {F : Type 0} (remaining : F → Option (List ℕ)) (old now : List (Source F)) (held : List (List ℕ)) (place : ℕ) (file : Source F) (fault : EngineFault)
    → AllFresh old → ReadUpTo remaining old now held place → place < length now → StopsReading file fault → StopsFiles (slice_set now place file) fault
stops_at remaining old now held place file ReadFailed fresh upto inside stops = record { place = place; file = file; there = set_here now place file inside; fails = stops }
stops_at remaining old now held place file WriteFailed fresh upto inside stops = absurd stops
stops_at remaining old now held place file NoMemory fresh upto inside stops = none_failed_at remaining old now held place file fresh upto stops

-- what is within the limit isn't longer
none_longer : (files : List (List ℕ)) (k : ℕ) (file : List ℕ) → AllWithin files → slice_get files k ≡ Some file → length file ≤ INPUT_BYTES
none_longer [] k file all at = absurd cc
none_longer (f ∷ files) zero file all at = let same : f ≡ file = cc in omega (arith, ap length same, all.0)
none_longer (f ∷ files) (suc k) file all at = none_longer files k file all.1 at

pub not_long : (input : List ℕ) (files : List (List ℕ)) → AllShort input files → SomeLong input files → ⊥
not_long input files short (inl long) = omega (arith, short.0, long)
not_long input files short (inr long) = omega (arith, none_longer files long.0 long.1 short.1 long.2, long.3)

at_push : {A : Type 0} (xs : List A) (x y : A) (k : ℕ) → slice_get (xs ++ x ∷ []) k ≡ Some y → (slice_get xs k ≡ Some y) ⊎ (x ≡ y)
at_push [] x y zero e = inr (cc_some e)
at_push [] x y (suc k) e = absurd cc
at_push (z ∷ xs) x y zero e = inl e
at_push (z ∷ xs) x y (suc k) e = at_push xs x y k e

-- one more file of which nothing was read
pub fresh_push : {F : Type 0} (files : List (Source F)) (file : Source F) → AllFresh files → IsFresh file INPUT_READS → AllFresh (files ++ file ∷ [])
fresh_push files file all is = λ place f at. elim (at_push files file f place at) [
  | inl there ↦ all place f there
  | inr same ↦ subst (λ (g : Source _). IsFresh g INPUT_READS) same is
]

-- files of which nothing was read are read in order, and none failed
pub in_order_unread : {F : Type 0} (files : List (Source F)) → AreReadInOrder files files
in_order_unread files = record { place = 0; before = λ earlier file lt. absurd (omega arith); after = λ later lt. refl }

pub none_failed_unread : {F : Type 0} (files : List (Source F)) → AllFresh files → NoneFailed files
none_failed_unread files fresh = λ place file at. (fresh place file at).2.1

-- why an engine that reads no file ended early
pub ends_alone : {R F W : Type 0} (script : Source R) (files : List (Source F)) (sink : Sink W) (fault : EngineFault) → AllFresh files → EndsEarly script sink fault → ScriptEndsEarly script files sink fault
ends_alone script files sink ReadFailed fresh ends = (inl ends.0, ends.1)
ends_alone script files sink WriteFailed fresh ends = (ends.0, none_failed_unread files fresh, ends.1)
ends_alone script files sink NoMemory fresh ends = (ends.0, none_failed_unread files fresh, ends.1)
