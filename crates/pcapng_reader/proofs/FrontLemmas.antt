-- What is read of a front of some bytes is read of them all.
use Rattle.std.proofs.Common.{◌≡◌, ◌≢◌, ℕ, ◌-◌, ◌%◌, ◌≤◌, ◌<◌, ◌==◌, ◌||◌, ◌⊎◌, not, nat_lt, Bool, true, false, if◌then◌else◌, List, [], ◌++◌, length, take, drop, arith, refl, ap, sym, ◌∙◌, inl, inr, length-append, length-take-le, Result, Ok, Err}
use Rattle.std.proofs.lemmas.List.{take-append-le, take-take, take-append-drop}
use Rattle.std.proofs.lemmas.Bool.{cases_lt}
use Rattle.std.proofs.lemmas.Bool.Decides.{nat_tests}
use Rattle.pcap_reader.specs.Savefile.{number}
use Rattle.pcap_reader.proofs.Fronts.{word-front, word_at-front}
use Rattle.pcapng_reader.specs.declared.frame.Frame.{Frame}
use Rattle.pcapng_reader.specs.declared.front.Front.TheVariants.{Short, Wrong, Whole}
use Rattle.pcapng_reader.specs.declared.block.InterfaceDescription.{InterfaceDescription}
use Rattle.pcapng_reader.specs.declared.block.Content.{Content}
use Rattle.pcapng_reader.specs.declared.block.BlockError.{BlockError}
use Rattle.pcapng_reader.specs.declared.block.BlockError.TheVariants.{NoSection, BadLength, TooLong}
use Rattle.pcapng_reader.specs.Blocks.{IsFrame, least_of, order_in, measure_of, measure_in, frame_in, content_in}
use Rattle.pcapng_reader.specs.Grammar.{outcome_of, framed_in, front_in}

order-on : (xs ys : List ℕ) → 12 ≤ length xs → order_in (drop 8 (xs ++ ys)) ≡ order_in (drop 8 xs)
order-on xs ys long = rw (word_at-front true 8 xs ys (omega arith), word_at-front false 8 xs ys (omega arith)) refl

measure-on : (big : Bool) (kind : ℕ) (xs ys : List ℕ) → 12 ≤ length xs → measure_of big kind (drop 4 (xs ++ ys)) ≡ measure_of big kind (drop 4 xs)
unfolding measure_of
measure-on big kind xs ys long = rw (word_at-front big 4 xs ys (omega arith)) refl

measures-on : (order : Result Bool BlockError) (kind : ℕ) (xs ys : List ℕ) → 12 ≤ length xs → measure_in order kind (drop 4 (xs ++ ys)) ≡ measure_in order kind (drop 4 xs)
measures-on (Ok big) kind xs ys long = measure-on big kind xs ys long
measures-on (Err error) kind xs ys long = refl

-- the front of a block is its first twelve bytes
pub frame-on : (sections : ℕ) (big : Bool) (xs ys : List ℕ) → 12 ≤ length xs → frame_in sections big (xs ++ ys) ≡ frame_in sections big xs
unfolding frame_in
frame-on sections big xs ys long =
    rw (word-front big xs ys (omega arith), order-on xs ys long, measures-on (order_in (drop 8 xs)) (number big 4 xs) xs ys long, measure-on big (number big 4 xs) xs ys long) refl

pub guard_ok : {A E : Type 0} → (b : Bool) (d : E) (r : Result A E) (y : A) → ◌≡◌ {A = Result A E} (if b then Err d else r) (Ok y) → (b ≡ false) × (r ≡ Ok y)
guard_ok true d r y e = absurd (cc)
guard_ok false d r y e = (refl, e)

least_any : (kind : ℕ) → 12 ≤ least_of kind
least_any kind = grind (arith, nat_tests)

tests_least : (t least : ℕ) → nat_lt t least || not (t % 4 == 0) ≡ false → least ≤ t
tests_least t least e = grind (arith, nat_tests)

tests_words : (t least : ℕ) → nat_lt t least || not (t % 4 == 0) ≡ false → t % 4 ≡ 0
tests_words t least e = grind (arith, nat_tests)

test_most : (t : ℕ) → nat_lt 16777216 t ≡ false → t ≤ 16777216
test_most t e = grind (arith, nat_tests)

abbrev frame_with : Bool → ℕ → ℕ → Frame
frame_with big kind total = record { big = big; kind = kind; total = total }

measure_good : (big : Bool) (kind : ℕ) (bytes : List ℕ) (frame : Frame) → measure_of big kind bytes ≡ Ok frame → IsFrame frame
unfolding measure_of
measure_good big kind bytes frame e =
    let t = number big 4 bytes in
    let first = guard_ok (nat_lt t (least_of kind) || not (t % 4 == 0)) BadLength _ frame e in
    let second = guard_ok (nat_lt 16777216 t) TooLong _ frame first.1 in
    let same : frame_with big kind t ≡ frame = same_ok (frame_with big kind t) frame second.1 in
    let good : IsFrame (frame_with big kind t) = record {
      least = tests_least t (least_of kind) first.0;
      any = omega (arith, tests_least t (least_of kind) first.0, least_any kind);
      most = test_most t second.0;
      words = tests_words t (least_of kind) first.0;
    } in
    rw same at good
  where
    same_ok : (f g : Frame) → ◌≡◌ {A = Result Frame BlockError} (Ok f) (Ok g) → f ≡ g
    same_ok f g e = cc

measures_good : (order : Result Bool BlockError) (kind : ℕ) (bytes : List ℕ) (frame : Frame) → measure_in order kind bytes ≡ Ok frame → IsFrame frame
measures_good (Ok big) kind bytes frame e = measure_good big kind bytes frame e
measures_good (Err error) kind bytes frame e = absurd (cc)

pub chosen : {A : Type 0} → (b : Bool) (x y z : A) → (if b then x else y) ≡ z → ((b ≡ true) × (x ≡ z)) ⊎ ((b ≡ false) × (y ≡ z))
chosen true x y z e = inl (refl, e)
chosen false x y z e = inr (refl, e)

-- a front has a length that its type can have
pub frame_good : (sections : ℕ) (big : Bool) (bytes : List ℕ) (frame : Frame) → frame_in sections big bytes ≡ Ok frame → IsFrame frame
unfolding frame_in
frame_good sections big bytes frame e = elim (chosen (number big 4 bytes == 0x0a0d0d0a) _ _ (Ok frame) e) [
  | inl header ↦ measures_good (order_in (drop 8 bytes)) (number big 4 bytes) (drop 4 bytes) frame header.1
  | inr other ↦ let more = guard_ok (sections == 0) NoSection _ frame other.1 in measure_good big (number big 4 bytes) (drop 4 bytes) frame more.1
]

-- the ways in which bytes begin
pub data Begins (sections : ℕ) (big : Bool) (interfaces : List InterfaceDescription) (bytes : List ℕ) : Type 0 where
  begins_few : length bytes < 12 → front_in sections big interfaces bytes ≡ Short → Begins sections big interfaces bytes
  begins_bad : (error : BlockError) → 12 ≤ length bytes → frame_in sections big bytes ≡ Err error → front_in sections big interfaces bytes ≡ Wrong error → Begins sections big interfaces bytes
  begins_part : (frame : Frame) → 12 ≤ length bytes → frame_in sections big bytes ≡ Ok frame → length bytes < frame.total → front_in sections big interfaces bytes ≡ Short → Begins sections big interfaces bytes
  begins_all : (frame : Frame) → 12 ≤ length bytes → frame_in sections big bytes ≡ Ok frame → frame.total ≤ length bytes
      → front_in sections big interfaces bytes ≡ outcome_of frame.total (content_in sections interfaces frame (take frame.total bytes)) → Begins sections big interfaces bytes

front_few : (sections : ℕ) (big : Bool) (interfaces : List InterfaceDescription) (bytes : List ℕ) → length bytes < 12 → front_in sections big interfaces bytes ≡ Short
unfolding front_in
front_few sections big interfaces bytes short = let e : nat_lt (length bytes) 12 ≡ true = grind (arith, nat_tests) in rw e refl

pub front_long : (sections : ℕ) (big : Bool) (interfaces : List InterfaceDescription) (bytes : List ℕ) → 12 ≤ length bytes → front_in sections big interfaces bytes ≡ framed_in sections interfaces (frame_in sections big bytes) bytes
unfolding front_in
front_long sections big interfaces bytes long = let e : nat_lt (length bytes) 12 ≡ false = grind (arith, nat_tests) in rw e refl

pub framed_part : (sections : ℕ) (interfaces : List InterfaceDescription) (frame : Frame) (bytes : List ℕ) → length bytes < frame.total → framed_in sections interfaces (Ok frame) bytes ≡ Short
framed_part sections interfaces frame bytes short = let e : nat_lt (length bytes) frame.total ≡ true = grind (arith, nat_tests) in rw e refl

pub framed_all : (sections : ℕ) (interfaces : List InterfaceDescription) (frame : Frame) (bytes : List ℕ) → frame.total ≤ length bytes
    → framed_in sections interfaces (Ok frame) bytes ≡ outcome_of frame.total (content_in sections interfaces frame (take frame.total bytes))
framed_all sections interfaces frame bytes long = let e : nat_lt (length bytes) frame.total ≡ false = grind (arith, nat_tests) in rw e refl

begins_framed : (sections : ℕ) (big : Bool) (interfaces : List InterfaceDescription) (bytes : List ℕ) (frame : Result Frame BlockError) → 12 ≤ length bytes → frame_in sections big bytes ≡ frame → Begins sections big interfaces bytes
begins_framed sections big interfaces bytes (Err error) long is = begins_bad error long is (front_long sections big interfaces bytes long ∙ ap (λ f. framed_in sections interfaces f bytes) is)
begins_framed sections big interfaces bytes (Ok frame) long is = elim (cases_lt (length bytes) frame.total) [
  | inl short ↦ begins_part frame long is short (front_long sections big interfaces bytes long ∙ (ap (λ f. framed_in sections interfaces f bytes) is ∙ framed_part sections interfaces frame bytes short))
  | inr whole ↦ begins_all frame long is whole (front_long sections big interfaces bytes long ∙ (ap (λ f. framed_in sections interfaces f bytes) is ∙ framed_all sections interfaces frame bytes whole))
]

pub begins : (sections : ℕ) (big : Bool) (interfaces : List InterfaceDescription) (bytes : List ℕ) → Begins sections big interfaces bytes
begins sections big interfaces bytes = elim (cases_lt (length bytes) 12) [
  | inl short ↦ begins_few short (front_few sections big interfaces bytes short)
  | inr long ↦ begins_framed sections big interfaces bytes (frame_in sections big bytes) long refl
]

-- what is wrong with bytes is wrong with more, and a whole block stays one
front-on-kind : (sections : ℕ) (big : Bool) (interfaces : List InterfaceDescription) (xs ys : List ℕ) → front_in sections big interfaces xs ≢ Short → Begins sections big interfaces xs
    → front_in sections big interfaces (xs ++ ys) ≡ front_in sections big interfaces xs
front-on-kind sections big interfaces xs ys more (begins_few short is) = absurd (more is)
front-on-kind sections big interfaces xs ys more (begins_part frame long framed short is) = absurd (more is)
front-on-kind sections big interfaces xs ys more (begins_bad error long framed is) =
    front_long sections big interfaces (xs ++ ys) (omega (arith, length-append xs ys, long)) ∙ (ap (λ f. framed_in sections interfaces f (xs ++ ys)) (frame-on sections big xs ys long ∙ framed) ∙ sym is)
front-on-kind sections big interfaces xs ys more (begins_all frame long framed whole is) =
    front_long sections big interfaces (xs ++ ys) (omega (arith, length-append xs ys, long))
    ∙ (ap (λ f. framed_in sections interfaces f (xs ++ ys)) (frame-on sections big xs ys long ∙ framed)
    ∙ (framed_all sections interfaces frame (xs ++ ys) (omega (arith, length-append xs ys, whole))
    ∙ (ap (λ b. outcome_of frame.total (content_in sections interfaces frame b)) (take-append-le frame.total xs ys whole) ∙ sym is)))

pub front-on : (sections : ℕ) (big : Bool) (interfaces : List InterfaceDescription) (xs ys : List ℕ) → front_in sections big interfaces xs ≢ Short
    → front_in sections big interfaces (xs ++ ys) ≡ front_in sections big interfaces xs
front-on sections big interfaces xs ys more = front-on-kind sections big interfaces xs ys more (begins sections big interfaces xs)

-- a whole block in front
pub record IsFirst (sections : ℕ) (big : Bool) (interfaces : List InterfaceDescription) (bytes : List ℕ) (n : ℕ) (content : Content) : Type 0 where
  pub least : 12 ≤ n
  pub within : n ≤ length bytes
  pub framed : (frame : Frame) × (frame_in sections big bytes ≡ Ok frame) × (frame.total ≡ n)
  pub alone : front_in sections big interfaces (take n bytes) ≡ Whole n content

pub outcome_whole : (total n : ℕ) (r : Result Content BlockError) (content : Content) → outcome_of total r ≡ Whole n content → (total ≡ n) × (r ≡ Ok content)
outcome_whole total n (Ok c) content e = (cc, cc)
outcome_whole total n (Err error) content e = absurd (cc)

first_kind : (sections : ℕ) (big : Bool) (interfaces : List InterfaceDescription) (bytes : List ℕ) (n : ℕ) (content : Content) → front_in sections big interfaces bytes ≡ Whole n content → Begins sections big interfaces bytes
    → IsFirst sections big interfaces bytes n content
first_kind sections big interfaces bytes n content whole (begins_few short is) = absurd (cc)
first_kind sections big interfaces bytes n content whole (begins_part frame long framed short is) = absurd (cc)
first_kind sections big interfaces bytes n content whole (begins_bad error long framed is) = absurd (cc)
first_kind sections big interfaces bytes n content whole (begins_all frame long framed within is) =
    let out = outcome_whole frame.total n (content_in sections interfaces frame (take frame.total bytes)) content (sym is ∙ whole) in
    let least : 12 ≤ frame.total = (frame_good sections big bytes frame framed).any in
    let long' : length (take n bytes) ≡ n = length-take-le n bytes (omega (arith, out.0, within)) in
    let framed' : frame_in sections big (take n bytes) ≡ Ok frame =
    sym (frame-on sections big (take n bytes) (drop n bytes) (omega (arith, long', out.0, least))) ∙ (ap (frame_in sections big) (take-append-drop n bytes) ∙ framed) in
    record {
      least = omega (arith, out.0, least);
      within = omega (arith, out.0, within);
      framed = (frame, framed, out.0);
      alone = front_long sections big interfaces (take n bytes) (omega (arith, long', out.0, least))
          ∙ (ap (λ f. framed_in sections interfaces f (take n bytes)) framed'
          ∙ (framed_all sections interfaces frame (take n bytes) (omega (arith, long', out.0))
          ∙ (ap (λ b. outcome_of frame.total (content_in sections interfaces frame b)) (ap (λ k. take k (take n bytes)) out.0 ∙ (take-take n n bytes (omega arith) ∙ ap (λ k. take k bytes) (sym out.0)))
          ∙ (sym is ∙ whole))));
    }

pub first : (sections : ℕ) (big : Bool) (interfaces : List InterfaceDescription) (bytes : List ℕ) (n : ℕ) (content : Content) → front_in sections big interfaces bytes ≡ Whole n content
    → IsFirst sections big interfaces bytes n content
first sections big interfaces bytes n content whole = first_kind sections big interfaces bytes n content whole (begins sections big interfaces bytes)

-- nothing begins in no bytes
pub begins_short : (sections : ℕ) (big : Bool) (interfaces : List InterfaceDescription) → front_in sections big interfaces [] ≡ Short
begins_short sections big interfaces = front_few sections big interfaces [] (omega arith)

outcome_long : (total : ℕ) (r : Result Content BlockError) → outcome_of total r ≡ Short → ⊥
outcome_long total (Ok c) e = cc
outcome_long total (Err error) e = cc

-- less than a block is shorter than its front says
short_kind : (sections : ℕ) (big : Bool) (interfaces : List InterfaceDescription) (bytes : List ℕ) (frame : Frame) → front_in sections big interfaces bytes ≡ Short → 12 ≤ length bytes → frame_in sections big bytes ≡ Ok frame
    → Begins sections big interfaces bytes → length bytes < frame.total
short_kind sections big interfaces bytes frame short long framed (begins_few few is) = absurd (omega arith)
short_kind sections big interfaces bytes frame short long framed (begins_bad error many wrong is) = absurd (cc)
short_kind sections big interfaces bytes frame short long framed (begins_part frame' many framed' less is) = let same : frame ≡ frame' = cc in rw same less
short_kind sections big interfaces bytes frame short long framed (begins_all frame' many framed' within is) =
    absurd (outcome_long frame'.total (content_in sections interfaces frame' (take frame'.total bytes)) (sym is ∙ short))

pub short_frame : (sections : ℕ) (big : Bool) (interfaces : List InterfaceDescription) (bytes : List ℕ) (frame : Frame) → front_in sections big interfaces bytes ≡ Short → 12 ≤ length bytes → frame_in sections big bytes ≡ Ok frame → length bytes < frame.total
short_frame sections big interfaces bytes frame short long framed = short_kind sections big interfaces bytes frame short long framed (begins sections big interfaces bytes)

-- less than a block with a front, and its front
front_kind : (sections : ℕ) (big : Bool) (interfaces : List InterfaceDescription) (bytes : List ℕ) → front_in sections big interfaces bytes ≡ Short → 12 ≤ length bytes → Begins sections big interfaces bytes
    → (frame : Frame) × (frame_in sections big bytes ≡ Ok frame) × (length bytes < frame.total)
front_kind sections big interfaces bytes short long (begins_few few is) = absurd (omega arith)
front_kind sections big interfaces bytes short long (begins_bad error many wrong is) = absurd (cc)
front_kind sections big interfaces bytes short long (begins_part frame many framed less is) = (frame, framed, less)
front_kind sections big interfaces bytes short long (begins_all frame many framed within is) = absurd (outcome_long frame.total (content_in sections interfaces frame (take frame.total bytes)) (sym is ∙ short))

pub front_of_short : (sections : ℕ) (big : Bool) (interfaces : List InterfaceDescription) (bytes : List ℕ) → front_in sections big interfaces bytes ≡ Short → 12 ≤ length bytes
    → (frame : Frame) × (frame_in sections big bytes ≡ Ok frame) × (length bytes < frame.total)
front_of_short sections big interfaces bytes short long = front_kind sections big interfaces bytes short long (begins sections big interfaces bytes)
