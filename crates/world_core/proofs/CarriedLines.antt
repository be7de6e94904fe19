-- The lines of messages stand for these messages.
use Rattle.std.proofs.Common.{◌≡◌, ℕ, zero, suc, ◌+◌, ◌/◌, ◌<◌, ◌≤◌, List, [], ◌∷◌, ◌++◌, length, refl, ap, sym, ◌∙◌, subst, arith, Some, option_map, slice_get, slice_index, get_or, length-append, drop, ◌-◌, unwrap_or, append_assoc, Bool, true, false, ◌==◌, if◌then◌else◌}
use Rattle.std.specs.List.{All, flat_map, filter_map, cons_option}
use Rattle.std.proofs.lemmas.Grind.{flat_map-append}
use Rattle.std.proofs.lemmas.List.{append-nil, drop-drop, get_or_append_left}
use Rattle.std.proofs.Math.Seq.{drop-append_seam}
use Rattle.std.proofs.lemmas.List.Elements.{All-nil, All-cons, All-append, All-head, All-tail}
use Rattle.monitor_messages.specs.declared.message.Message.{Message}
use Rattle.monitor_messages.specs.declared.message.Message.TheVariants.{Ack}
use Rattle.monitor_messages.specs.Coding.{coded, Coded}
use Rattle.monitor_messages.proofs.Messages.{message_again}
use Rattle.ump_ring.specs.Lines.{IsMessage, line_at, line_count, lines_below, lines_of, messages_in, number_after}
use Rattle.ump_ring.proofs.Counts.{length-lines_below}
use Rattle.ump_ring.proofs.Laws.{length_of-head, messages-first}
use Rattle.world_core.specs.Carrying.{Carries, CarriesOne, IsCarried, lines_for, message_of, message_with, messages_of}

message_read : (m : Message) → IsCarried m → message_with (coded 0 m) ≡ Some m
message_read m is = ap (option_map (λ found. found.1)) (message_again (coded 0 m) 0 m is.has_bytes)

-- a message's lines stand for it, and what follows them for what it stands for alone
pub messages_of-first : (m : Message) (rest : List (List ℕ)) → IsCarried m → messages_of (lines_for m ++ rest) ≡ m ∷ messages_of rest
messages_of-first m rest is =
    ap (filter_map message_with) (messages-first (coded 0 m) 0 rest is.sized) ∙ ap (λ o. cons_option o (messages_of rest)) (message_read m is)

pub messages_of-one : (m : Message) → IsCarried m → messages_of (lines_for m) ≡ m ∷ []
messages_of-one m is = ap messages_of (sym (append-nil (lines_for m))) ∙ messages_of-first m [] is

messages_of-all : (ms : List Message) (rest : List (List ℕ)) → All IsCarried ms → messages_of (flat_map lines_for ms ++ rest) ≡ ms ++ messages_of rest
messages_of-all [] rest all = refl
messages_of-all (m ∷ ms) rest all =
    ap messages_of (append_assoc (lines_for m) (flat_map lines_for ms) rest)
    ∙ messages_of-first m (flat_map lines_for ms ++ rest) (All-head IsCarried m ms all)
    ∙ ap (λ t. m ∷ t) (messages_of-all ms rest (All-tail IsCarried m ms all))

-- lines that are those of messages stand for them
pub carries_all : (ms : List Message) (lines : List (List ℕ)) → All IsCarried ms → lines ≡ flat_map lines_for ms → Carries lines × (messages_of lines ≡ ms)
carries_all ms lines all is =
    let held : messages_of lines ≡ ms = ap messages_of (is ∙ sym (append-nil (flat_map lines_for ms))) ∙ messages_of-all ms [] all ∙ append-nil ms in (
      record { cut = is ∙ ap (flat_map lines_for) (sym held); carried = subst (λ (t : List Message). All IsCarried t) (sym held) all },
      held,
    )

-- the lines of one message more
pub carries_more : (lines more : List (List ℕ)) → Carries lines → CarriesOne more → Carries (lines ++ more) × (messages_of (lines ++ more) ≡ messages_of lines ++ message_of more ∷ [])
carries_more lines more is one =
    let m : Message = message_of more in
    let ms : List Message = messages_of lines in
    let last : flat_map lines_for (m ∷ []) ≡ lines_for m = append-nil (lines_for m) in
    carries_all (ms ++ m ∷ []) (lines ++ more) (All-append IsCarried ms (m ∷ []) is.carried (All-cons IsCarried m [] one.carried (All-nil IsCarried)))
    (ap (λ t. t ++ more) is.cut ∙ ap (λ t. flat_map lines_for ms ++ t) (one.cut ∙ sym last) ∙ sym (flat_map-append lines_for ms (m ∷ [])))

-- the lines of a message
pub carries_one : (m : Message) (lines : List (List ℕ)) → IsCarried m → lines ≡ lines_for m → CarriesOne lines × (message_of lines ≡ m)
carries_one m lines is cut =
    let same : message_of lines ≡ m = ap message_of cut ∙ ap (λ t. unwrap_or (slice_get t 0) (Ack 0)) (messages_of-one m is) in (
      record { cut = cut ∙ ap lines_for (sym same); carried = subst IsCarried (sym same) is },
      same,
    )

-- the oldest message, and the others
pub record Front (lines : List (List ℕ)) : Type 0 where
  pub m : Message
  pub ms : List Message
  pub held : messages_of lines ≡ m ∷ ms
  pub carried : IsCarried m
  pub others : All IsCarried ms
  pub cut : lines ≡ lines_for m ++ flat_map lines_for ms
  pub first : slice_get (messages_in lines) 0 ≡ Some (coded 0 m)

pub front : (lines : List (List ℕ)) → Carries lines → 0 < length lines → Front lines
front lines is some = at (messages_of lines) refl
  where
    at : (ms : List Message) → messages_of lines ≡ ms → Front lines
    at [] e = absurd (omega (arith, ap length (is.cut ∙ ap (flat_map lines_for) e)))
    at (m ∷ ms) e =
        let all : All IsCarried (m ∷ ms) = subst (λ (t : List Message). All IsCarried t) e is.carried in
        let carried : IsCarried m = All-head IsCarried m ms all in
        let cut : lines ≡ lines_for m ++ flat_map lines_for ms = is.cut ∙ ap (flat_map lines_for) e in
        record {
          m = m;
          ms = ms;
          held = e;
          carried = carried;
          others = All-tail IsCarried m ms all;
          cut = cut;
          first = ap (λ l. slice_get (messages_in l) 0) cut ∙ ap (λ t. slice_get t 0) (messages-first (coded 0 m) 0 (flat_map lines_for ms) carried.sized);
        }

-- how many lines the oldest has
pub front_count : (lines : List (List ℕ)) (f : Front lines) → line_count (length (coded 0 f.m)) ≤ length lines
front_count lines f = omega (arith, ap length f.cut, length-append (lines_for f.m) (flat_map lines_for f.ms), length-lines_below (length (coded 0 f.m)) (coded 0 f.m) 0 (line_count (length (coded 0 f.m))))

-- without its lines
pub after_front : (lines : List (List ℕ)) (f : Front lines) → drop (line_count (length (coded 0 f.m))) lines ≡ flat_map lines_for f.ms
after_front lines f =
    let long : length (lines_for f.m) ≡ line_count (length (coded 0 f.m)) = length-lines_below (length (coded 0 f.m)) (coded 0 f.m) 0 (line_count (length (coded 0 f.m))) in
    ap (λ n. drop n lines) (sym long) ∙ ap (drop (length (lines_for f.m))) f.cut ∙ drop-append_seam (lines_for f.m) (flat_map lines_for f.ms)

first_of_below : (size : ℕ) (bytes : List ℕ) (before count : ℕ) (d : List ℕ) → get_or (lines_below size bytes before (suc count)) 0 d ≡ line_at size bytes (number_after (before + 0)) 0
first_of_below size bytes before zero d = refl
first_of_below size bytes before (suc count) d =
    let some : 0 < length (lines_below size bytes before (suc count)) = omega (arith, length-lines_below size bytes before (suc count)) in
    get_or_append_left (lines_below size bytes before (suc count)) (line_at size bytes (number_after (before + suc count)) (suc count) ∷ []) d 0 some
    ∙ first_of_below size bytes before count d

-- the first line states the length
pub first_states : (bytes : List ℕ) (rest : List (List ℕ)) (d : List ℕ) → 1 ≤ length bytes → slice_index (get_or (lines_of bytes 0 ++ rest) 0 d) 0 / 4294967296 ≡ length bytes
first_states bytes rest d least =
    let count : ℕ = line_count (length bytes) - 1 in
    let more : line_count (length bytes) ≡ suc count = omega arith in
    let some : 0 < length (lines_of bytes 0) = omega (arith, length-lines_below (length bytes) bytes 0 (line_count (length bytes))) in
    ap (λ l. slice_index l 0 / 4294967296) (get_or_append_left (lines_of bytes 0) rest d 0 some ∙ ap (λ n. get_or (lines_below (length bytes) bytes 0 n) 0 d) more ∙ first_of_below (length bytes) bytes 0 count d)
    ∙ length_of-head (length bytes) 0 (omega arith)

-- one message's lines fit in the room that is made
pub one_fits : (lines : List (List ℕ)) → CarriesOne lines → length lines ≤ 587
one_fits lines one =
    let bytes : List ℕ = coded 0 (message_of lines) in
    let most : length bytes ≤ 32832 = one.carried.sized.most in
    omega (arith, ap length one.cut, length-lines_below (length bytes) bytes 0 (line_count (length bytes)))

-- they were appended, since there was room
pub put_lines : (old more new : List (List ℕ)) (ok : Bool) → new ≡ (if ok then old ++ more else old) → ok ≡ true → Carries old → CarriesOne more
    → Carries new × (messages_of new ≡ messages_of old ++ message_of more ∷ [])
put_lines old more new ok are fits is one =
    let appended : new ≡ old ++ more = are ∙ ap (λ (b : Bool). if b then old ++ more else old) fits in
    let (carries, held) = carries_more old more is one in
    (subst Carries (sym appended) carries, ap messages_of appended ∙ held)

-- how many lines the first one says that the oldest message has
pub front_states : (lines : List (List ℕ)) (f : Front lines) (line bytes : List ℕ) → line ≡ get_or lines 0 line → slice_get (messages_in lines) 0 ≡ Some bytes
    → slice_index line 0 / 4294967296 ≡ length bytes
front_states lines f line bytes there shows =
    let same : Some bytes ≡ Some (coded 0 f.m) = sym shows ∙ f.first in
    let is : bytes ≡ coded 0 f.m = cc in
    let least : 1 ≤ length (coded 0 f.m) = f.carried.sized.least in
    ap (λ l. slice_index l 0 / 4294967296) (there ∙ ap (λ l. get_or l 0 line) f.cut) ∙ first_states (coded 0 f.m) (flat_map lines_for f.ms) line least ∙ ap length (sym is)

-- an encoded message is carried by its lines
pub new_lines : (m : Message) (bytes : List ℕ) (lines : List (List ℕ)) → bytes ≡ coded 0 m → Coded bytes 0 m → (0 < length bytes) × (length bytes ≤ 32832)
    → (held : List ℕ) → held ≡ bytes → ((k : ℕ) → slice_index held k < 256) → lines ≡ lines_of held 0 → CarriesOne lines × (message_of lines ≡ m)
new_lines m bytes lines spelled has sized held same fits are =
    let fit : (k : ℕ) → slice_index bytes k < 256 = λ k. omega (arith, fits k, ap (λ b. slice_index b k) same) in
    let is : IsCarried m = record {
      has_bytes = subst (λ (b : List ℕ). Coded b 0 m) spelled has;
      sized = subst IsMessage spelled (record { least = omega arith; most = sized.1; bytes = fit });
    } in
    carries_one m lines is (are ∙ ap (λ b. lines_of b 0) (same ∙ spelled))

pub some_lines : (count : ℕ) (empty : Bool) → empty ≡ (count == 0) → empty ≡ false → 0 < count
some_lines zero empty e f = let no : true ≡ false = sym e ∙ f in cc
some_lines (suc count) empty e f = omega arith

-- a message that is read is the oldest
pub read_first : (lines : List (List ℕ)) (f : Front lines) (shown : List ℕ) → Some shown ≡ Some (coded 0 f.m) → Coded shown 0 f.m
read_first lines f shown e = let same : coded 0 f.m ≡ shown = cc in subst (λ (b : List ℕ). Coded b 0 f.m) same f.carried.has_bytes

-- without the oldest message's lines
pub drop_lines : (lines now : List (List ℕ)) (f : Front lines) (count : ℕ) → now ≡ drop count lines → count ≡ line_count (length (coded 0 f.m))
    → Carries now × (messages_of now ≡ drop 1 (messages_of lines))
drop_lines lines now f count are all =
    let (carries, held) = carries_all f.ms now f.others (are ∙ ap (λ n. drop n lines) all ∙ after_front lines f) in
    (carries, held ∙ ap (drop 1) (sym f.held))

pub dropped_more : (lines rest now : List (List ℕ)) (count : ℕ) → rest ≡ drop count lines → now ≡ drop 1 rest → now ≡ drop (count + 1) lines
dropped_more lines rest now count are next = next ∙ ap (drop 1) are ∙ drop-drop 1 count lines
