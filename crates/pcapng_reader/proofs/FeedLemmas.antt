-- How a feed goes on.
use Rattle.std.proofs.Common.{◌≡◌, ◌≢◌, ℕ, ◌+◌, ◌-◌, ◌==◌, ◌||◌, max, min, ◌≤◌, ◌<◌, ◌⊎◌, Bool, true, false, List, [], ◌∷◌, ◌++◌, length, take, drop, arith, refl, ap, sym, ◌∙◌, inl, inr, append_assoc, length-append, length-drop, length-take-le, subst, Option, Some, None, Result, Ok, Err, IfOk, MatchResult, if◌then◌else◌}
use Rattle.std.specs.Bool.{MatchBool}
use Rattle.std.proofs.lemmas.List.{append-nil, take-append-drop, take_rest, take_all, drop_at, map_push}
use Rattle.std.proofs.lemmas.Bool.{cases_lt}
use Rattle.std.proofs.lemmas.Bool.Decides.{nat_tests}
use Rattle.pcap_reader.specs.Savefile.{number}
use Rattle.pcapng_reader.specs.declared.frame.Frame.{Frame}
use Rattle.pcapng_reader.specs.declared.front.Front.{Front}
use Rattle.pcapng_reader.specs.declared.front.Front.TheVariants.{Short, Wrong, Whole}
use Rattle.pcapng_reader.specs.declared.block.InterfaceDescription.{InterfaceDescription}
use Rattle.pcapng_reader.specs.declared.block.Content.{Content}
use Rattle.pcapng_reader.specs.declared.block.Content.TheVariants.{Other}
use Rattle.pcapng_reader.specs.declared.block.BlockError.{BlockError}
use Rattle.pcapng_reader.specs.declared.block.BlockError.TheVariants.{LengthNotRepeated}
use Rattle.pcapng_reader.specs.declared.fault.CaptureFault.{CaptureFault}
use Rattle.pcapng_reader.specs.declared.fault.CaptureFault.TheVariants.{BadBlock, Truncated, NoMemory}
use Rattle.pcapng_reader.specs.declared.feed.BlockFeed.{BlockFeed}
use Rattle.pcapng_reader.specs.declared.feed.Passing.{Passing}
use Rattle.pcapng_reader.specs.declared.feed.Held.{Held as HeldBlock}
use Rattle.pcapng_reader.specs.declared.seen.Block.{Block as SeenBlock}
use Rattle.pcapng_reader.specs.declared.feed.FeedStep.{FeedStep}
use Rattle.pcapng_reader.specs.Answers.{seen_blocks}
use Rattle.pcapng_reader.specs.declared.feed.FeedStep.TheVariants.{Block, Held, Passed, More}
use Rattle.pcapng_reader.specs.Blocks.{frame_in, content_in, content_by, is_needed}
use Rattle.pcapng_reader.specs.Grammar.{WholeBlock, Place, start, front_at, framed_in, outcome_of, place_after, IsBlock, Follow, bytes_of, EndsWith, Reads, ReadsFront, IsLasting}
use Rattle.pcapng_reader.specs.Held.{seen_block, place_of, open_part, Passes, IsUnfinished, IsOpen, HasStopped, HoldsAfter, LiesIn, Takes, Advances, Ends}
use Rattle.pcapng_reader.specs.Growth.{GoesOn, IsApart, IsLetGo, Enters, IsWanted, IsGrown, IsPassed, IsWithin, IsBetween, KeepsOrPasses, TakesBlock}
use Rattle.pcapng_reader.proofs.FrontLemmas.{first, short_frame, frame-on, front-on, front_long, framed_all, framed_part}
use Rattle.pcapng_reader.proofs.LawLemmas.{follow-push, bytes_of-push, follow_offset, follow_sections, block_with, empty_short}

-- a fault that stands does so once more bytes have come
reads-lasts : (xs ys : List ℕ) (given : List WholeBlock) (f : CaptureFault) → IsLasting f → Reads xs given (Some f) → Reads (xs ++ ys) given (Some f)
reads-lasts xs ys given (BadBlock error at) lasting r = record {
  place = r.place;
  rest = r.rest ++ ys;
  parts = ap (λ t. t ++ ys) r.parts ∙ append_assoc (bytes_of given) r.rest ys;
  follow = r.follow;
  ends = (front-on r.place.sections r.place.big r.place.interfaces r.rest ys (λ short. wrong_short r.ends.0 short) ∙ r.ends.0, r.ends.1);
}
  where
    wrong_short : {f : Front} {e : BlockError} → f ≡ Wrong e → f ≡ Short → ⊥
    wrong_short e s = cc
reads-lasts xs ys given (Truncated at) lasting r = absurd lasting
reads-lasts xs ys given NoMemory lasting r = absurd lasting

front-lasts : (xs ys : List ℕ) (given : List WholeBlock) → ReadsFront xs given → ReadsFront (xs ++ ys) given
front-lasts xs ys given r = record {
  place = r.place;
  more = r.more ++ ys;
  parts = ap (λ t. t ++ ys) r.parts ∙ append_assoc (bytes_of given) r.more ys;
  follow = r.follow;
}

pub stopped-lasts : (xs ys : List ℕ) (given : List WholeBlock) (f : CaptureFault) → HasStopped given xs f → HasStopped given (xs ++ ys) f
stopped-lasts xs ys given f (inl s) = inl (s.0, reads-lasts xs ys given f s.0 s.1)
stopped-lasts xs ys given f (inr s) = inr (s.0, front-lasts xs ys given s.1)

pub open_front : (given : List WholeBlock) (fed : List ℕ) (place : Place) (passing : Option Passing) (kept : List ℕ) → IsOpen given fed place passing kept → ReadsFront fed given
open_front given fed place passing kept stands = record {
  place = place;
  more = stands.part;
  parts = stands.parts;
  follow = stands.follow;
}

-- what a feed without a fault holds
pub open_of : (given : List WholeBlock) (fed : List ℕ) (feed : BlockFeed) → feed.fault ≡ None → HoldsAfter given fed feed → IsOpen given fed (place_of feed) feed.passing (open_part feed.held feed.part.items)
open_of given fed feed none held = rw none at held

pub holds_open : (given : List WholeBlock) (fed : List ℕ) (feed : BlockFeed) → feed.fault ≡ None → IsOpen given fed (place_of feed) feed.passing (open_part feed.held feed.part.items) → HoldsAfter given fed feed
holds_open given fed feed none stands = rw none stands

-- memory was refused
pub refused : (given : List WholeBlock) (fed bytes : List ℕ) (feed : BlockFeed) → feed.fault ≡ None → HoldsAfter given fed feed → HasStopped given (fed ++ bytes) NoMemory
refused given fed bytes feed none held =
    inr (refl, front-lasts fed bytes given (open_front given fed (place_of feed) feed.passing (open_part feed.held feed.part.items) (open_of given fed feed none held)))

-- a block ends where the bytes end
pub block_ended : (given : List WholeBlock) (fed : List ℕ) (place place' : Place) (b : WholeBlock) → fed ≡ bytes_of given ++ b.bytes → Follow start given place → IsBlock place b
    → place' ≡ place_after place b.content (length b.bytes) → IsOpen (given ++ b ∷ []) fed place' None []
block_ended given fed place place' b parts follow one moved = record {
  part = [];
  parts = parts ∙ (sym (bytes_of-push given b) ∙ sym (append-nil (bytes_of (given ++ b ∷ []))));
  follow = rw moved (follow-push start place given b follow one);
  unfinished = (refl, empty_short place');
}

-- there is room for the place after a block
pub room : (given : List WholeBlock) (fed last : List ℕ) (place : Place) (total : ℕ) → fed ≡ bytes_of given ++ last → Follow start given place → length fed < 18446744073709551616 → total ≡ length last → 12 ≤ total
    → (place.offset + total < 18446744073709551616) × (place.sections + 1 < 18446744073709551616)
room given fed last place total parts follow short is least =
    let at : place.offset ≡ 0 + length (bytes_of given) = follow_offset start place given follow in
    let few_sections : place.sections ≤ place.offset = follow_sections start place given follow (omega arith) in
    let long : length fed ≡ length (bytes_of given) + length last = ap length parts ∙ length-append (bytes_of given) last in
    (omega (arith, at, long, is, short), omega (arith, at, long, is, short, few_sections, least))

-- what is whole in front of some bytes, as a block
pub record IsWholeFront (place : Place) (bytes : List ℕ) (total : ℕ) (content : Content) : Type 0 where
  pub least : 12 ≤ total
  pub within : total ≤ length bytes
  pub one : IsBlock place (block_with place.offset (take total bytes) content)
  pub long : length (take total bytes) ≡ total

pub whole_front : (place : Place) (bytes : List ℕ) (total : ℕ) (content : Content) → front_at place bytes ≡ Whole total content → IsWholeFront place bytes total content
whole_front place bytes total content is =
    let whole = first place.sections place.big place.interfaces bytes total content is in
    let long : length (take total bytes) ≡ total = length-take-le total bytes whole.within in
    record {
      least = whole.least;
      within = whole.within;
      one = record { lies = refl; says = whole.alone ∙ ap (λ k. Whole k content) (sym long) };
      long = long;
    }

pub cut_in_two : (count : ℕ) (bytes front rest : List ℕ) → front ≡ take count bytes → rest ≡ drop count bytes → bytes ≡ front ++ rest
cut_in_two count bytes front rest is left = rw (is, left) (sym (take-append-drop count bytes))

-- a slice in two parts
pub two_parts : (count : ℕ) (rest : List ℕ) → rest ≡ take count rest ++ take (length rest - count) (drop count rest)
two_parts count rest = sym (take-append-drop count rest) ∙ ap (λ t. take count rest ++ t) (sym (take_rest rest count))

-- a whole block that lies in some bytes is taken
taken_whole : (bytes front : List ℕ) (old new : BlockFeed) (content : Content) (total : ℕ) → front ≡ take total bytes
    → old.fault ≡ None → old.held ≡ None → old.passing ≡ None → old.part.items ≡ [] → front_at (place_of old) bytes ≡ Whole total content → Enters old new content total
    → (given : List WholeBlock) (fed : List ℕ) → HoldsAfter given fed old → length (fed ++ front) < 18446744073709551616 → HoldsAfter (given ++ block_with old.offset front content ∷ []) (fed ++ front) new
taken_whole bytes front old new content total is going between resting empty says enters given fed held short =
    let whole = whole_front (place_of old) bytes total content says in
    let stands = open_of given fed old going held in
    let b = block_with old.offset front content in
    let one : IsBlock (place_of old) b = rw is whole.one in
    let long : length front ≡ total = ap length is ∙ whole.long in
    let parts : fed ++ front ≡ bytes_of given ++ front = ap (λ t. t ++ front) (nothing_kept given fed (place_of old) old.passing (open_part old.held old.part.items) resting (none_kept old between empty) stands) in
    let fits = room given (fed ++ front) front (place_of old) total parts stands.follow short (sym long) whole.least in
    let ended = block_ended given (fed ++ front) (place_of old) (place_of new) b parts stands.follow one (enters.place fits.0 fits.1 ∙ ap (place_after (place_of old) content) (sym long)) in
    holds_open (given ++ b ∷ []) (fed ++ front) new (enters.fault ∙ going) (rw (enters.passing ∙ resting, enters.held ∙ between, ap (λ v. v.items) enters.part ∙ empty) ended)
  where
    none_kept : (feed : BlockFeed) → feed.held ≡ None → feed.part.items ≡ [] → open_part feed.held feed.part.items ≡ []
    none_kept feed none empty = rw none empty

    nothing_kept : (given : List WholeBlock) (fed : List ℕ) (place : Place) (passing : Option Passing) (kept : List ℕ) → passing ≡ None → kept ≡ [] → IsOpen given fed place passing kept → fed ≡ bytes_of given
    nothing_kept given fed place passing kept none empty stands = nothing_at given fed place kept empty (rw none at stands)
      where
        nothing_at : (given : List WholeBlock) (fed : List ℕ) (place : Place) (kept : List ℕ) → kept ≡ [] → IsOpen given fed place None kept → fed ≡ bytes_of given
        nothing_at given fed place kept empty stands = stands.parts ∙ (ap (λ t. bytes_of given ++ t) (sym stands.unfinished.0 ∙ empty) ∙ append-nil (bytes_of given))

place_at_start : (interfaces : List InterfaceDescription) → interfaces ≡ [] → start ≡ record { offset = 0; sections = 0; big = true; interfaces = interfaces }
place_at_start interfaces none = rw none refl

-- a feed that holds no block
pub holds_by : (given : List WholeBlock) (fed : List ℕ) (feed : BlockFeed) (passing : Option Passing) (kept : List ℕ) → feed.fault ≡ None → feed.held ≡ None → feed.passing ≡ passing → feed.part.items ≡ kept
    → IsOpen given fed (place_of feed) passing kept → HoldsAfter given fed feed
holds_by given fed feed passing kept none between is keeps stands = holds_open given fed feed none (rw (is, between, keeps) stands)

pub open_by : (given : List WholeBlock) (fed : List ℕ) (feed : BlockFeed) (passing : Option Passing) → feed.fault ≡ None → feed.held ≡ None → feed.passing ≡ passing
    → HoldsAfter given fed feed → IsOpen given fed (place_of feed) passing feed.part.items
open_by given fed feed passing none between is held = rw (is, between) at (open_of given fed feed none held)

-- a part grows by some bytes that it lacks
grown_whole : (place : Place) (part piece : List ℕ) (n total : ℕ) (content : Content) → front_at place part ≡ Short → IsWanted place part n → length piece ≤ max n 1 → front_at place (part ++ piece) ≡ Whole total content
    → total ≡ length (part ++ piece)
grown_whole place part piece n total content short (inl front) more is =
    let whole = first place.sections place.big place.interfaces (part ++ piece) total content is in
    omega (arith, whole.least, whole.within, length-append part piece, front.0, front.1, more)
grown_whole place part piece n total content short (inr body) more is =
    let whole = first place.sections place.big place.interfaces (part ++ piece) total content is in
    let framed : frame_in place.sections place.big part ≡ Ok whole.framed.0 = sym (frame-on place.sections place.big part piece body.0) ∙ whole.framed.1 in
    let lacks = short_frame place.sections place.big place.interfaces part whole.framed.0 short body.0 framed in
    omega (arith, whole.within, length-append part piece, body.0, body.1 whole.framed.0 framed, more, whole.framed.2, lacks)

pub grown_next : (given : List WholeBlock) (fed piece : List ℕ) (old new : BlockFeed) (n : ℕ) → old.fault ≡ None → old.held ≡ None → old.passing ≡ None → HoldsAfter given fed old
    → IsWanted (place_of old) old.part.items n → length piece ≤ max n 1 → new.part.items ≡ old.part.items ++ piece → place_of new ≡ place_of old → IsGrown given (fed ++ piece) new
grown_next given fed piece old new n going between resting held wanted more grew same =
    let stands = open_by given fed old None going between resting held in
    let short : front_at (place_of old) old.part.items ≡ Short = ap (front_at (place_of old)) stands.unfinished.0 ∙ stands.unfinished.1 in
    record {
      parts = ap (λ t. t ++ piece) (stands.parts ∙ ap (λ t. bytes_of given ++ t) (sym stands.unfinished.0)) ∙ (append_assoc (bytes_of given) old.part.items piece ∙ ap (λ t. bytes_of given ++ t) (sym grew));
      follow = rw same stands.follow;
      exact = λ total content is. grown_whole (place_of old) old.part.items piece n total content short wanted more (sym (ap (front_at (place_of new)) grew ∙ ap (λ (p : Place). front_at p (old.part.items ++ piece)) same) ∙ is) ∙ ap length (sym grew);
    }

-- what was found in a front of some bytes is found in them all
pub goes_apart : (bytes : List ℕ) (count : ℕ) (old new : BlockFeed) (r : Result FeedStep CaptureFault) → IfOk r IsApart
    → ((given : List WholeBlock) (fed : List ℕ) → HoldsAfter given fed old → length (fed ++ take count bytes) < 18446744073709551616 → GoesOn given (fed ++ take count bytes) new r)
    → Advances bytes (take (length bytes - count) (drop count bytes)) old new r
goes_apart bytes count old new (Ok step) is goes = record { front = take count bytes; parts = two_parts count bytes; lies = lies_apart (take count bytes) step is; adds = goes }
  where
    lies_apart : (front : List ℕ) (step : FeedStep) → IsApart step → LiesIn front step
    lies_apart front (Block b) is = absurd is
    lies_apart front Held is = tt
    lies_apart front Passed is = tt
    lies_apart front More is = tt
goes_apart bytes count old new (Err fault) is goes = λ given fed held short.
    let all : (fed ++ take count bytes) ++ drop count bytes ≡ fed ++ bytes = append_assoc fed (take count bytes) (drop count bytes) ∙ ap (λ t. fed ++ t) (take-append-drop count bytes) in
    subst (λ t. HasStopped given t fault) all (stopped-lasts (fed ++ take count bytes) (drop count bytes) given fault
    (goes given fed held (omega (arith, short, ap length all, length-append (fed ++ take count bytes) (drop count bytes)))))

-- a part that is less than a block
pub kept_or_passed : (given : List WholeBlock) (fed : List ℕ) (old new : BlockFeed) → KeepsOrPasses old new → IsGrown given fed old → front_at (place_of old) old.part.items ≡ Short
    → old.fault ≡ None → old.held ≡ None → old.passing ≡ None → HoldsAfter given fed new
kept_or_passed given fed old new (inl same) grown short going between resting =
    rw same.0 (holds_by given fed old None old.part.items going between resting refl (record { part = old.part.items; parts = grown.parts; follow = grown.follow; unfinished = (refl, short) }))
kept_or_passed given fed old new (inr n) grown short going between resting =
    let lacks = short_frame old.sections old.big old.interfaces.items old.part.items n.frame short (omega (arith, n.long)) n.framed in
    holds_by given fed new (Some (record { frame = n.frame; left = n.frame.total - 16 })) [] (n.fault ∙ going) (n.held ∙ between) n.passing n.part (record {
      part = old.part.items;
      parts = grown.parts;
      follow = rw n.place grown.follow;
      unfinished = rw n.place (record {
        gone = old.part.items;
        parts = sym (append-nil old.part.items);
        framed = n.framed;
        needless = n.needless;
        long = omega (arith, n.long);
        left = omega (arith, n.long, lacks, n.good.words);
        between = λ some. refl;
        short = omega arith;
      });
    })

-- a part that is a whole block is held
pub held_whole : (given : List WholeBlock) (fed : List ℕ) (old mid new : BlockFeed) (held : HeldBlock) (content : Content) (total : ℕ) → IsGrown given fed old → length fed < 18446744073709551616
    → front_at (place_of old) old.part.items ≡ Whole total content → Enters old mid content total → old.fault ≡ None → old.passing ≡ None
    → place_of new ≡ place_of mid → new.fault ≡ mid.fault → new.passing ≡ mid.passing → new.held ≡ Some held → HoldsAfter (given ++ block_with old.offset mid.part.items content ∷ []) fed new
held_whole given fed old mid new held content total grown short is enters going resting place fault passing holds =
    let exact : total ≡ length old.part.items = grown.exact total content is in
    let whole = whole_front (place_of old) old.part.items total content is in
    let b = block_with old.offset old.part.items content in
    let one : IsBlock (place_of old) b = record { lies = refl; says = is ∙ ap (λ k. Whole k content) exact } in
    let fits = room given fed old.part.items (place_of old) total grown.parts grown.follow short exact whole.least in
    let ended = block_ended given fed (place_of old) (place_of new) b grown.parts grown.follow one (place ∙ (enters.place fits.0 fits.1 ∙ ap (place_after (place_of old) content) exact)) in
    let items : mid.part.items ≡ old.part.items = ap (λ v. v.items) enters.part in
    rw items (holds_open (given ++ b ∷ []) fed new (fault ∙ (enters.fault ∙ going)) (rw (passing ∙ (enters.passing ∙ resting), holds) ended))

-- a part with something wrong
pub bad_part : (given : List WholeBlock) (fed : List ℕ) (place : Place) (part : List ℕ) (error : BlockError) → fed ≡ bytes_of given ++ part → Follow start given place → front_at place part ≡ Wrong error
    → HasStopped given fed (BadBlock error place.offset)
bad_part given fed place part error parts follow is = inl (tt, record { place = place; rest = part; parts = parts; follow = follow; ends = (is, refl) })

or_false : (a b : Bool) → a || b ≡ false → (a ≡ false) × (b ≡ false)
or_false false false e = (refl, refl)
or_false false true e = absurd (cc)
or_false true b e = absurd (cc)

content_needless : (sections : ℕ) (interfaces : List InterfaceDescription) (big : Bool) (kind : ℕ) (block : List ℕ) → is_needed kind ≡ false → content_by sections interfaces big kind block ≡ Ok Other
content_needless sections interfaces big kind block needless =
    let e = or_false (kind == 0x0a0d0d0a || kind == 1 || kind == 6 || kind == 3) (kind == 2) needless in
    let d = or_false (kind == 0x0a0d0d0a || kind == 1 || kind == 6) (kind == 3) e.0 in
    let c = or_false (kind == 0x0a0d0d0a || kind == 1) (kind == 6) d.0 in
    let b = or_false (kind == 0x0a0d0d0a) (kind == 1) c.0 in
    rw (b.0, b.1, c.1, d.1, e.1) refl

-- what a block that nobody needs is, by its last four bytes
needless_content : (sections : ℕ) (interfaces : List InterfaceDescription) (frame : Frame) (gone last : List ℕ) → is_needed frame.kind ≡ false → length last ≡ 4
    → content_in sections interfaces frame (gone ++ last) ≡ (if number frame.big 4 last == frame.total then Ok Other else Err LengthNotRepeated)
unfolding content_in
needless_content sections interfaces frame gone last needless four =
    let at : drop (length (gone ++ last) - 4) (gone ++ last) ≡ last = drop_at gone last (length (gone ++ last) - 4) (omega (arith, length-append gone last, four)) in
    rw (at, content_needless sections interfaces frame.big frame.kind (gone ++ last) needless) refl

pub needless_front : (place : Place) (frame : Frame) (gone last : List ℕ) → frame_in place.sections place.big gone ≡ Ok frame → is_needed frame.kind ≡ false → 12 ≤ length gone → length gone + 4 ≡ frame.total → length last ≡ 4
    → front_at place (gone ++ last) ≡ outcome_of frame.total (if number frame.big 4 last == frame.total then Ok Other else Err LengthNotRepeated)
needless_front place frame gone last framed needless long left four =
    let size : length (gone ++ last) ≡ frame.total = length-append gone last ∙ omega (arith, left, four) in
    front_long place.sections place.big place.interfaces (gone ++ last) (omega (arith, size, left, long))
    ∙ (ap (λ f. framed_in place.sections place.interfaces f (gone ++ last)) (frame-on place.sections place.big gone last long ∙ framed)
    ∙ (framed_all place.sections place.interfaces frame (gone ++ last) (omega (arith, size))
    ∙ ap (outcome_of frame.total) (ap (content_in place.sections place.interfaces frame) (take_all frame.total (gone ++ last) (omega (arith, size))) ∙ needless_content place.sections place.interfaces frame gone last needless four)))

tested : (a b : ℕ) → a ≡ b → a == b ≡ true
tested a b e = grind (arith, nat_tests)

refuted : (a b : ℕ) → a ≢ b → a == b ≡ false
refuted a b e = grind (arith, nat_tests)

-- its length stands at its end
pub ended_passing : (given : List WholeBlock) (fed : List ℕ) (frame : Frame) (old new : BlockFeed) → IsPassed given fed frame old → length fed < 18446744073709551616 → 4 ≤ length old.part.items → number frame.big 4 old.part.items ≡ frame.total
    → new.fault ≡ None → new.held ≡ None → new.passing ≡ None → new.part.items ≡ [] → new.sections ≡ old.sections → new.big ≡ old.big → new.interfaces ≡ old.interfaces
    → (old.offset + frame.total < 18446744073709551616 → new.offset ≡ old.offset + frame.total) → (block : WholeBlock) × (block.content ≡ Other) × HoldsAfter (given ++ block ∷ []) fed new
ended_passing given fed frame old new passed short four same going between resting empty sections big interfaces moved =
    let bytes = passed.gone ++ old.part.items in
    let b = block_with old.offset bytes Other in
    let front : front_at (place_of old) bytes ≡ outcome_of frame.total (if number frame.big 4 old.part.items == frame.total then Ok Other else Err LengthNotRepeated) =
    needless_front (place_of old) frame passed.gone old.part.items passed.framed passed.needless passed.long passed.left (omega (arith, four, passed.short)) in
    let test : number frame.big 4 old.part.items == frame.total ≡ true = tested _ _ same in
    let says : front_at (place_of old) bytes ≡ Whole frame.total Other = rw test at front in
    let size : length bytes ≡ frame.total = length-append passed.gone old.part.items ∙ omega (arith, passed.left, four, passed.short) in
    let one : IsBlock (place_of old) b = record { lies = refl; says = says ∙ ap (λ k. Whole k Other) (sym size) } in
    let fits = room given fed bytes (place_of old) frame.total passed.parts passed.follow short (sym size) (omega (arith, passed.left, passed.long)) in
    let place : place_of new ≡ place_after (place_of old) Other (length bytes) = place_same old new sections big interfaces (moved fits.0 ∙ ap (λ n. old.offset + n) (sym size)) in
    (b, refl, holds_by (given ++ b ∷ []) fed new None [] going between resting empty (block_ended given fed (place_of old) (place_of new) b passed.parts passed.follow one place))
  where
    place_with : ℕ → ℕ → Bool → List InterfaceDescription → Place
    place_with offset sections big interfaces = record { offset = offset; sections = sections; big = big; interfaces = interfaces }

    place_same : (old new : BlockFeed) → new.sections ≡ old.sections → new.big ≡ old.big → new.interfaces ≡ old.interfaces → {n : ℕ} → new.offset ≡ n
        → place_of new ≡ record { offset = n; sections = old.sections; big = old.big; interfaces = old.interfaces.items }
    place_same old new sections big interfaces offset = rw (sections, big, interfaces, offset) refl

-- another length stands at its end
pub bad_passing : (given : List WholeBlock) (fed : List ℕ) (frame : Frame) (old : BlockFeed) → IsPassed given fed frame old → 4 ≤ length old.part.items → number frame.big 4 old.part.items ≢ frame.total
    → HasStopped given fed (BadBlock LengthNotRepeated old.offset)
bad_passing given fed frame old passed four other =
    let bytes = passed.gone ++ old.part.items in
    let front : front_at (place_of old) bytes ≡ outcome_of frame.total (if number frame.big 4 old.part.items == frame.total then Ok Other else Err LengthNotRepeated) =
    needless_front (place_of old) frame passed.gone old.part.items passed.framed passed.needless passed.long passed.left (omega (arith, four, passed.short)) in
    let test : number frame.big 4 old.part.items == frame.total ≡ false = refuted _ _ other in
    let says : front_at (place_of old) bytes ≡ Wrong LengthNotRepeated = rw test at front in
    bad_part given fed (place_of old) bytes LengthNotRepeated passed.parts passed.follow says

-- bytes of a block that is passed over are not kept
pub passed_more : (given : List WholeBlock) (fed piece : List ℕ) (place : Place) (passing : Passing) (kept : List ℕ) (count : ℕ) → IsOpen given fed place (Some passing) kept → 0 < passing.left → count ≡ length piece → count ≤ passing.left
    → IsOpen given (fed ++ piece) place (Some (record { frame = passing.frame; left = passing.left - count })) kept
passed_more given fed piece place passing kept count stands some is few =
    let p = stands.unfinished in
    let empty : kept ≡ [] = p.between some in
    record {
      part = stands.part ++ piece;
      parts = ap (λ t. t ++ piece) stands.parts ∙ append_assoc (bytes_of given) stands.part piece;
      follow = stands.follow;
      unfinished = record {
        gone = p.gone ++ piece;
        parts = ap (λ t. t ++ piece) (p.parts ∙ (ap (λ t. p.gone ++ t) empty ∙ append-nil p.gone)) ∙ (sym (append-nil (p.gone ++ piece)) ∙ ap (λ t. (p.gone ++ piece) ++ t) (sym empty));
        framed = frame-on place.sections place.big p.gone piece p.long ∙ p.framed;
        needless = p.needless;
        long = omega (arith, p.long, length-append p.gone piece);
        left = omega (arith, p.left, length-append p.gone piece, is, few);
        between = λ more. empty;
        short = p.short;
      };
    }

-- the last bytes of a block that is passed over are kept
pub passed_last : (given : List WholeBlock) (fed piece : List ℕ) (old new : BlockFeed) (passing : Passing) → IsOpen given fed (place_of old) (Some passing) old.part.items → passing.left ≡ 0
    → length piece ≤ max (4 - length old.part.items) 1 → new.part.items ≡ old.part.items ++ piece → place_of new ≡ place_of old → IsPassed given (fed ++ piece) passing.frame new
passed_last given fed piece old new passing stands none few grew same =
    let p = stands.unfinished in
    record {
      gone = p.gone;
      parts = ap (λ t. t ++ piece) (stands.parts ∙ ap (λ t. bytes_of given ++ t) p.parts)
          ∙ (append_assoc (bytes_of given) (p.gone ++ old.part.items) piece ∙ ap (λ t. bytes_of given ++ t) (append_assoc p.gone old.part.items piece ∙ ap (λ t. p.gone ++ t) (sym grew)));
      follow = rw same stands.follow;
      framed = ap (λ (q : Place). frame_in q.sections q.big p.gone) same ∙ p.framed;
      needless = p.needless;
      long = p.long;
      left = omega (arith, p.left, none);
      short = omega (arith, ap length grew, length-append old.part.items piece, few, p.short);
    }

-- after the block that was held
pub let_go : (given : List WholeBlock) (fed : List ℕ) (old new : BlockFeed) → IsLetGo old new → old.fault ≡ None → HoldsAfter given fed old → HoldsAfter given fed new
let_go given fed old new gone going held =
    let stands = open_of given fed old going held in
    holds_by given fed new old.passing (open_part old.held old.part.items) (gone.fault ∙ going) gone.held gone.passing gone.part (rw gone.place stands)

pub advances_after : (bytes rest : List ℕ) (old mid new : BlockFeed) (r : Result FeedStep CaptureFault) → IsLetGo old mid → old.fault ≡ None → Advances bytes rest mid new r → Advances bytes rest old new r
advances_after bytes rest old mid new (Ok step) gone going advances = record {
  front = advances.front;
  parts = advances.parts;
  lies = advances.lies;
  adds = λ given fed held short. advances.adds given fed (let_go given fed old mid gone going held) short;
}
advances_after bytes rest old mid new (Err fault) gone going advances = λ given fed held short. advances given fed (let_go given fed old mid gone going held) short

pub nothing_fed : (interfaces : List InterfaceDescription) (kept : List ℕ) → interfaces ≡ [] → kept ≡ [] → IsOpen [] [] (record { offset = 0; sections = 0; big = true; interfaces = interfaces }) None kept
nothing_fed interfaces kept none empty = record {
  part = [];
  parts = refl;
  follow = place_at_start interfaces none;
  unfinished = (empty, empty_short (record { offset = 0; sections = 0; big = true; interfaces = interfaces }));
}

pub stopped_of : (given : List WholeBlock) (fed : List ℕ) (feed : BlockFeed) (fault : CaptureFault) → feed.fault ≡ Some fault → HoldsAfter given fed feed → HasStopped given fed fault
stopped_of given fed feed fault is held = rw is at held

-- less than a block is left while one is passed over
passes_short : (place : Place) (passing : Passing) (kept part : List ℕ) → Passes place passing kept part → front_at place part ≡ Short
passes_short place passing kept part p =
    let few : length (p.gone ++ kept) < passing.frame.total = few_kept place passing kept part p (cases_lt 0 passing.left) in
    ap (front_at place) p.parts
    ∙ (front_long place.sections place.big place.interfaces (p.gone ++ kept) (omega (arith, p.long, length-append p.gone kept))
    ∙ (ap (λ f. framed_in place.sections place.interfaces f (p.gone ++ kept)) (frame-on place.sections place.big p.gone kept p.long ∙ p.framed)
    ∙ framed_part place.sections place.interfaces passing.frame (p.gone ++ kept) few))
  where
    few_kept : (place : Place) (passing : Passing) (kept part : List ℕ) → (p : Passes place passing kept part) → (0 < passing.left) ⊎ (passing.left ≤ 0) → length (p.gone ++ kept) < passing.frame.total
    few_kept place passing kept part p (inl some) = omega (arith, p.left, length-append p.gone kept, ap length (p.between some))
    few_kept place passing kept part p (inr none) = omega (arith, p.left, length-append p.gone kept, p.short, none)

unfinished_short : (place : Place) (passing : Option Passing) (kept part : List ℕ) → IsUnfinished place passing kept part → front_at place part ≡ Short
unfinished_short place None kept part u = u.1
unfinished_short place (Some passing) kept part u = passes_short place passing kept part u

truncated : (given : List WholeBlock) (fed : List ℕ) (place : Place) (passing : Option Passing) (kept : List ℕ) → (stands : IsOpen given fed place passing kept) → (0 < length stands.part) ⊎ (place.sections ≡ 0)
    → Reads fed given (Some (Truncated place.offset))
truncated given fed place passing kept stands due = record {
  place = place;
  rest = stands.part;
  parts = stands.parts;
  follow = stands.follow;
  ends = (due, unfinished_short place passing kept stands.part stands.unfinished, refl);
}

within_some : (place : Place) (passing : Option Passing) (kept part : List ℕ) → IsWithin passing kept → IsUnfinished place passing kept part → 0 < length part
within_some place None kept part some u = omega (arith, ap length u.0, some)
within_some place (Some passing) kept part some u = omega (arith, ap length u.parts, length-append u.gone kept, u.long)

between_none : (place : Place) (passing : Option Passing) (kept part : List ℕ) → IsBetween passing kept → IsUnfinished place passing kept part → part ≡ []
between_none place None kept part none u = sym u.0 ∙ none
between_none place (Some passing) kept part none u = absurd none

-- how bytes end that begin no section
pub ends_unbegun : (given : List WholeBlock) (fed : List ℕ) (feed : BlockFeed) → feed.fault ≡ None → feed.sections ≡ 0 → HoldsAfter given fed feed → Reads fed given (Some (Truncated feed.offset))
ends_unbegun given fed feed going none held =
    truncated given fed (place_of feed) feed.passing (open_part feed.held feed.part.items) (open_of given fed feed going held) (inr none)

-- how bytes end within a block
pub ends_within : (given : List WholeBlock) (fed : List ℕ) (feed : BlockFeed) → feed.fault ≡ None → IsWithin feed.passing (open_part feed.held feed.part.items) → HoldsAfter given fed feed → Reads fed given (Some (Truncated feed.offset))
ends_within given fed feed going some held =
    let stands = open_of given fed feed going held in
    truncated given fed (place_of feed) feed.passing (open_part feed.held feed.part.items) stands (inl (within_some (place_of feed) feed.passing (open_part feed.held feed.part.items) stands.part some stands.unfinished))

-- how bytes end after a block
pub ends_between : (given : List WholeBlock) (fed : List ℕ) (feed : BlockFeed) → feed.fault ≡ None → IsBetween feed.passing (open_part feed.held feed.part.items) → 0 < feed.sections → HoldsAfter given fed feed → Reads fed given None
ends_between given fed feed going none some held =
    let stands = open_of given fed feed going held in
    record {
      place = place_of feed;
      rest = stands.part;
      parts = stands.parts;
      follow = stands.follow;
      ends = (between_none (place_of feed) feed.passing (open_part feed.held feed.part.items) stands.part none stands.unfinished, some);
    }

-- bytes of a block that is passed over are taken
pub takes_passing : (bytes : List ℕ) (count : ℕ) (old new : BlockFeed) (passing : Passing) → old.fault ≡ None → old.held ≡ None → old.passing ≡ Some passing → 0 < passing.left → count ≡ min passing.left (length bytes)
    → new.fault ≡ old.fault → new.held ≡ old.held → new.part ≡ old.part → place_of new ≡ place_of old → new.passing ≡ Some (record { frame = passing.frame; left = passing.left - count })
    → Takes bytes (take (length bytes - count) (drop count bytes)) old new More
takes_passing bytes count old new passing going between is some counted fault held part place passes = record {
  front = take count bytes;
  parts = two_parts count bytes;
  lies = tt;
  adds = λ given fed holds short.
      let long : length (take count bytes) ≡ count = length-take-le count bytes (omega (arith, counted)) in
      holds_by given (fed ++ take count bytes) new (Some (record { frame = passing.frame; left = passing.left - count })) old.part.items (fault ∙ going) (held ∙ between) passes (ap (λ v. v.items) part)
      (rw place (passed_more given fed (take count bytes) (place_of old) passing old.part.items count (open_by given fed old (Some passing) going between is holds) some (sym long) (omega (arith, counted))));
}

-- the block that was taken is the next
pub takes_block : (bytes rest : List ℕ) (old new : BlockFeed) (content : Content) (total : ℕ) (block : SeenBlock) → TakesBlock bytes rest old new total content block
    → old.fault ≡ None → old.held ≡ None → old.passing ≡ None → old.part.items ≡ [] → front_at (place_of old) bytes ≡ Whole total content → Takes bytes rest old new (Block block)
takes_block bytes rest old new content total block takes going between resting empty says = record {
  front = block.bytes.now;
  parts = cut_in_two total bytes block.bytes.now rest takes.lies takes.left;
  lies = refl;
  adds = λ given fed held short. subst (λ b. HoldsAfter (given ++ b ∷ []) (fed ++ block.bytes.now) new) (same_seen block takes.offset takes.content)
      (taken_whole bytes block.bytes.now old new content total takes.lies going between resting empty says takes.enters given fed held short);
}
  where
    same_seen : (block : SeenBlock) → {offset : ℕ} → {content : Content} → block.offset ≡ offset → block.content ≡ content → block_with offset block.bytes.now content ≡ seen_block block
    same_seen block at says = rw (at, says) refl

-- how far a capture was read
pub record HasRead (bytes rest : List ℕ) (blocks : List SeenBlock) (place : Place) : Type 0 where
  pub parts : bytes ≡ bytes_of (seen_blocks blocks) ++ rest
  pub follow : Follow start (seen_blocks blocks) place

pub read_start : (bytes : List ℕ) (place : Place) → place ≡ start → HasRead bytes bytes [] place
read_start bytes place is = record { parts = refl; follow = sym is }

pub read_more : (bytes rest rest' : List ℕ) (old new : BlockFeed) (content : Content) (total : ℕ) (blocks : List SeenBlock) (block : SeenBlock) → length bytes < 18446744073709551616 → HasRead bytes rest blocks (place_of old)
    → front_at (place_of old) rest ≡ Whole total content → TakesBlock rest rest' old new total content block → HasRead bytes rest' (blocks ++ block ∷ []) (place_of new)
read_more bytes rest rest' old new content total blocks block short read says takes =
    let whole = whole_front (place_of old) rest total content says in
    let b = block_with old.offset block.bytes.now content in
    let same : b ≡ seen_block block = rw (takes.offset, takes.content) refl in
    let one : IsBlock (place_of old) b = rw takes.lies whole.one in
    let long : length block.bytes.now ≡ total = ap length takes.lies ∙ whole.long in
    let cut : rest ≡ block.bytes.now ++ rest' = cut_in_two total rest block.bytes.now rest' takes.lies takes.left in
    let all : bytes ≡ (bytes_of (seen_blocks blocks) ++ block.bytes.now) ++ rest' = read.parts ∙ (ap (λ t. bytes_of (seen_blocks blocks) ++ t) cut ∙ sym (append_assoc (bytes_of (seen_blocks blocks)) block.bytes.now rest')) in
    let few : length (bytes_of (seen_blocks blocks) ++ block.bytes.now) < 18446744073709551616 = omega (arith, short, ap length all, length-append (bytes_of (seen_blocks blocks) ++ block.bytes.now) rest') in
    let fits = room (seen_blocks blocks) (bytes_of (seen_blocks blocks) ++ block.bytes.now) block.bytes.now (place_of old) total refl read.follow few (sym long) whole.least in
    let place : place_of new ≡ place_after (place_of old) content (length block.bytes.now) = takes.enters.place fits.0 fits.1 ∙ ap (place_after (place_of old) content) (sym long) in
    let pushed : seen_blocks (blocks ++ block ∷ []) ≡ seen_blocks blocks ++ b ∷ [] = map_push seen_block blocks block ∙ ap (λ x. seen_blocks blocks ++ x ∷ []) (sym same) in
    record {
      parts = all ∙ ap (λ t. t ++ rest') (sym (ap bytes_of pushed ∙ bytes_of-push (seen_blocks blocks) b));
      follow = rw (pushed, place) (follow-push start (place_of old) (seen_blocks blocks) b read.follow one);
    }

-- how it ends
pub read_end : (bytes rest : List ℕ) (blocks : List SeenBlock) (place : Place) (fault : Option CaptureFault) → HasRead bytes rest blocks place → EndsWith place rest fault → Reads bytes (seen_blocks blocks) fault
read_end bytes rest blocks place fault read ends = record { place = place; rest = rest; parts = read.parts; follow = read.follow; ends = ends }

pub read_front : (bytes rest : List ℕ) (blocks : List SeenBlock) (place : Place) → HasRead bytes rest blocks place → ReadsFront bytes (seen_blocks blocks)
read_front bytes rest blocks place read = record { place = place; more = rest; parts = read.parts; follow = read.follow }

-- how bytes end is how the feed says
pub ends_as : (given : List WholeBlock) (fed : List ℕ) (feed : BlockFeed) (within : Bool) (r : Result (Unit {0}) CaptureFault) → feed.fault ≡ None
    → MatchBool within (IsWithin feed.passing (open_part feed.held feed.part.items)) (IsBetween feed.passing (open_part feed.held feed.part.items))
    → MatchResult r (λ _. (within ≡ false) × (0 < feed.sections)) (λ f. (f ≡ Truncated feed.offset) × ((within ≡ true) ⊎ (feed.sections ≡ 0))) → HoldsAfter given fed feed → Ends given fed r
ends_as given fed feed false (Ok done) going kind told held = ends_between given fed feed going kind told.1 held
ends_as given fed feed true (Ok done) going kind told held = absurd (true_false told.0)
  where
    true_false : true ≡ false → ⊥
    true_false e = cc
ends_as given fed feed true (Err f) going kind told held = rw told.0 (ends_within given fed feed going kind held)
ends_as given fed feed false (Err f) going kind told held = elim told.1 [
  | inl e ↦ absurd (false_true e)
  | inr none ↦ rw told.0 (ends_unbegun given fed feed going none held)
]
  where
    false_true : false ≡ true → ⊥
    false_true e = cc

pub shorter_rest : (place : Place) (bytes rest : List ℕ) (total : ℕ) (content : Content) → front_at place bytes ≡ Whole total content → rest ≡ drop total bytes → length rest < length bytes
shorter_rest place bytes rest total content is left =
    let whole = whole_front place bytes total content is in omega (arith, ap length left, length-drop total bytes, whole.least, whole.within)
