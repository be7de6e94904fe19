-- How little a feed keeps.
use Rattle.std.proofs.Common.{◌≡◌, ◌≢◌, ℕ, ◌-◌, max, ◌≤◌, ◌<◌, ◌==◌, ◌⊎◌, nat_lt, Bool, true, false, List, [], ◌++◌, length, take, drop, slice_get, arith, refl, ap, sym, ◌∙◌, inl, inr, length-append, Option, Some, None, Result, Ok, Err}
use Rattle.std.proofs.lemmas.Bool.{cases_lt}
use Rattle.pcap_reader.specs.Savefile.{number}
use Rattle.pcapng_reader.specs.declared.frame.Frame.{Frame}
use Rattle.pcapng_reader.specs.declared.front.Front.TheVariants.{Short, Whole}
use Rattle.pcapng_reader.specs.declared.block.InterfaceDescription.{InterfaceDescription}
use Rattle.pcapng_reader.specs.declared.block.SectionHeader.{SectionHeader}
use Rattle.pcapng_reader.specs.declared.block.PacketEntry.{PacketEntry}
use Rattle.pcapng_reader.specs.declared.block.Content.{Content}
use Rattle.pcapng_reader.specs.declared.block.Content.TheVariants.{Section, Interface, Other}
use Rattle.pcapng_reader.specs.declared.block.BlockError.{BlockError}
use Rattle.pcapng_reader.specs.declared.feed.BlockFeed.{BlockFeed}
use Rattle.pcapng_reader.specs.declared.feed.Passing.{Passing}
use Rattle.pcapng_reader.specs.declared.feed.Held.{Held as HeldBlock}
use Rattle.pcapng_reader.specs.Blocks.{frame_in, is_needed, content_in, content_by, header_in, described_in, enhanced_in, simple_in, obsolete_in, packet_in, packet_of, simple_of, if_fitting, fitting, simple_captured}
use Rattle.pcapng_reader.specs.Grammar.{Place, front_at, front_in}
use Rattle.pcapng_reader.specs.Held.{place_of, open_part, IsFrugal, IsFrugalAt}
use Rattle.pcapng_reader.specs.Growth.{IsLetGo, IsWanted, IsKept, KeepsOrPasses, GrowsFrugally}
use Rattle.pcapng_reader.proofs.FrontLemmas.{Begins, begins_few, begins_bad, begins_part, begins_all, begins, chosen, outcome_whole, frame-on, frame_good, short_frame, front_of_short}

fitting_other : (r : Result (Unit {0}) BlockError) (packet : PacketEntry) → if_fitting r packet ≡ Ok Other → ⊥
fitting_other (Err error) packet e = cc
fitting_other (Ok done) packet e = cc

packet_other : (sections : ℕ) (described : Option InterfaceDescription) (interface : ℕ) (big : Bool) (block : List ℕ) → packet_of sections described interface big block ≡ Ok Other → ⊥
packet_other sections None interface big block e = cc
packet_other sections (Some described) interface big block e = fitting_other (fitting 28 (number big 4 (drop 20 block)) (length block)) _ e

simple_other : (sections : ℕ) (described : Option InterfaceDescription) (big : Bool) (block : List ℕ) → simple_of sections described big block ≡ Ok Other → ⊥
simple_other sections None big block e = cc
simple_other sections (Some described) big block e = fitting_other (fitting 12 (simple_captured described.snaplen (number big 4 (drop 8 block))) (length block)) _ e

packets_other : (sections : ℕ) (interfaces : List InterfaceDescription) (interface : ℕ) (big : Bool) (block : List ℕ) → packet_in sections interfaces interface big block ≡ Ok Other → ⊥
unfolding packet_in
packets_other sections interfaces interface big block e = packet_other sections (slice_get interfaces interface) interface big block e

section_apart : (h : SectionHeader) → ◌≡◌ {A = Result Content BlockError} (Ok (Section h)) (Ok Other) → ⊥
section_apart h e = cc

interface_apart : (i : InterfaceDescription) → ◌≡◌ {A = Result Content BlockError} (Ok (Interface i)) (Ok Other) → ⊥
interface_apart i e = cc

error_apart : (b : BlockError) → ◌≡◌ {A = Result Content BlockError} (Err b) (Ok Other) → ⊥
error_apart b e = cc

header_other : (big : Bool) (block : List ℕ) → header_in big block ≡ Ok Other → ⊥
unfolding header_in
header_other big block e = elim (chosen (number big 2 (drop 12 block) == 1) _ _ _ e) [ inl one ↦ section_apart _ one.1 | inr other ↦ error_apart _ other.1 ]

described_other : (interfaces : List InterfaceDescription) (big : Bool) (block : List ℕ) → described_in interfaces big block ≡ Ok Other → ⊥
described_other interfaces big block e = elim (chosen (nat_lt (length interfaces) 65536) _ _ _ e) [ inl room ↦ interface_apart _ room.1 | inr none ↦ error_apart _ none.1 ]

kind_other : (sections : ℕ) (interfaces : List InterfaceDescription) (big : Bool) (kind : ℕ) (block : List ℕ) → content_by sections interfaces big kind block ≡ Ok Other → is_needed kind ≡ false
unfolding enhanced_in obsolete_in simple_in
kind_other sections interfaces big kind block e = elim (chosen (kind == 0x0a0d0d0a) _ _ _ e) [
  | inl is ↦ absurd (header_other big block is.1)
  | inr a ↦ elim (chosen (kind == 1) _ _ _ a.1) [
    | inl is ↦ absurd (described_other interfaces big block is.1)
    | inr b ↦ elim (chosen (kind == 6) _ _ _ b.1) [
      | inl is ↦ absurd (packets_other sections interfaces (number big 4 (drop 8 block)) big block is.1)
      | inr c ↦ elim (chosen (kind == 3) _ _ _ c.1) [
        | inl is ↦ absurd (simple_other sections (slice_get interfaces 0) big block is.1)
        | inr d ↦ elim (chosen (kind == 2) _ _ _ d.1) [
          | inl is ↦ absurd (packets_other sections interfaces (number big 2 (drop 8 block)) big block is.1)
          | inr o ↦ rw (a.0, b.0, c.0, d.0, o.0) refl
        ]
      ]
    ]
  ]
]

content_other : (sections : ℕ) (interfaces : List InterfaceDescription) (frame : Frame) (block : List ℕ) → content_in sections interfaces frame block ≡ Ok Other → is_needed frame.kind ≡ false
unfolding content_in
content_other sections interfaces frame block e = elim (chosen (number frame.big 4 (drop (length block - 4) block) == frame.total) _ _ _ e) [
  | inl repeated ↦ kind_other sections interfaces frame.big frame.kind block repeated.1
  | inr other ↦ absurd (error_apart _ other.1)
]

begun_other : (sections : ℕ) (big : Bool) (interfaces : List InterfaceDescription) (bytes : List ℕ) (total : ℕ) (frame : Frame) → front_in sections big interfaces bytes ≡ Whole total Other → frame_in sections big bytes ≡ Ok frame
    → Begins sections big interfaces bytes → is_needed frame.kind ≡ false
begun_other sections big interfaces bytes total frame whole framed (begins_few short is) = absurd (cc)
begun_other sections big interfaces bytes total frame whole framed (begins_bad error long wrong is) = absurd (cc)
begun_other sections big interfaces bytes total frame whole framed (begins_part frame' long framed' short is) = absurd (cc)
begun_other sections big interfaces bytes total frame whole framed (begins_all frame' long framed' within is) =
    let out = outcome_whole frame'.total total (content_in sections interfaces frame' (take frame'.total bytes)) Other (sym is ∙ whole) in
    let same : frame' ≡ frame = cc in
    ap (λ (f : Frame). is_needed f.kind) (sym same) ∙ content_other sections interfaces frame' (take frame'.total bytes) out.1

-- a block that is needed says something
not_other : (place : Place) (bytes : List ℕ) (total : ℕ) (content : Content) (frame : Frame) → front_at place bytes ≡ Whole total content → frame_in place.sections place.big bytes ≡ Ok frame → is_needed frame.kind ≡ true → content ≢ Other
not_other place bytes total content frame is framed needed = λ other.
    let never = begun_other place.sections place.big place.interfaces bytes total frame (is ∙ ap (Whole total) other) framed (begins place.sections place.big place.interfaces bytes) in
    true_false (sym needed ∙ never)
  where
    true_false : true ≡ false → ⊥
    true_false e = cc

frugal_let_go : (copies : Bool) (place : Place) (passing : Option Passing) (held : Option HeldBlock) (part : List ℕ) → IsFrugalAt copies place passing held part → IsFrugalAt copies place passing None (open_part held part)
frugal_let_go copies place (Some p) None part f = f
frugal_let_go copies place (Some p) (Some h) part f = omega arith
frugal_let_go copies place None None part f = f
frugal_let_go copies place None (Some h) part f = inl (omega arith)

-- after the block that was held
pub frugal_after : (old new : BlockFeed) → IsLetGo old new → IsFrugal old → IsFrugal new
frugal_after old new gone f = rw (gone.copies, gone.place, gone.passing, gone.held, gone.part) (frugal_let_go old.copies (place_of old) old.passing old.held old.part.items f)

-- nothing is kept
pub empty_frugal : (feed : BlockFeed) → feed.passing ≡ None → feed.held ≡ None → feed.part.items ≡ [] → IsFrugal feed
empty_frugal feed resting between empty = rw (resting, between, empty) (inl (omega arith))

-- more of a block is kept
grown_at : (copies : Bool) (place : Place) (part piece : List ℕ) (n : ℕ) → IsFrugalAt copies place None None part → IsWanted place part n → length piece ≤ max n 1 → GrowsFrugally copies place (part ++ piece)
grown_at copies place part piece n (inl short) (inl front) few = inl (omega (arith, length-append part piece, front.1, few, short))
grown_at copies place part piece n (inl short) (inr body) few = absurd (omega (arith, short, body.0))
grown_at copies place part piece n (inr keeps) (inl front) few = absurd (omega (arith, keeps.2, front.0))
grown_at copies place part piece n (inr keeps) (inr body) few =
    inr (keeps.0, frame-on place.sections place.big part piece keeps.2 ∙ keeps.1, omega (arith, length-append part piece, keeps.2), omega (arith, length-append part piece, keeps.3, body.1 keeps.0 keeps.1, few), keeps.5)

pub grown_frugal : (old : BlockFeed) (piece part : List ℕ) (n : ℕ) → old.passing ≡ None → old.held ≡ None → IsFrugal old → IsWanted (place_of old) old.part.items n → length piece ≤ max n 1 → part ≡ old.part.items ++ piece
    → GrowsFrugally old.copies (place_of old) part
grown_frugal old piece part n resting between f wanted few grew = rw grew (grown_at old.copies (place_of old) old.part.items piece n (rw (resting, between) at f) wanted few)

why_kept : (feed : BlockFeed) (frame : Frame) → IsKept feed → length feed.part.items ≡ 12 → frame_in feed.sections feed.big feed.part.items ≡ Ok frame → (feed.copies ≡ true) ⊎ (is_needed frame.kind ≡ true)
why_kept feed frame (inl copies) long framed = inl copies
why_kept feed frame (inr (inl other)) long framed = absurd (other long)
why_kept feed frame (inr (inr needed)) long framed = inr (needed frame framed)

kept_at : (feed : BlockFeed) → IsKept feed → front_at (place_of feed) feed.part.items ≡ Short → GrowsFrugally feed.copies (place_of feed) feed.part.items → IsFrugalAt feed.copies (place_of feed) None None feed.part.items
kept_at feed kept short (inr keeps) =
    inr (keeps.0, keeps.1, keeps.2, short_frame feed.sections feed.big feed.interfaces.items feed.part.items keeps.0 short keeps.2 keeps.1, (frame_good feed.sections feed.big feed.part.items keeps.0 keeps.1).most, keeps.4)
kept_at feed kept short (inl few) = elim (cases_lt (length feed.part.items) 12) [
  | inl less ↦ inl less
  | inr long ↦ let front = front_of_short feed.sections feed.big feed.interfaces.items feed.part.items short long in
      inr (front.0, front.1, long, front.2, (frame_good feed.sections feed.big feed.part.items front.0 front.1).most, why_kept feed front.0 kept (omega (arith, few, long)) front.1)
]

pub short_frugal : (old new : BlockFeed) → KeepsOrPasses old new → front_at (place_of old) old.part.items ≡ Short → old.passing ≡ None → old.held ≡ None → GrowsFrugally old.copies (place_of old) old.part.items → IsFrugal new
short_frugal old new (inl same) short resting between grows = rw same.0 (rw (resting, between) (kept_at old same.1 short grows))
short_frugal old new (inr n) short resting between grows = rw (n.passing, n.part) (omega arith)

whole_at : (copies : Bool) (place : Place) (part : List ℕ) (total : ℕ) (content : Content) → front_at place part ≡ Whole total content → GrowsFrugally copies place part
    → (length part ≤ 16777216) × ((length part ≤ 12) ⊎ (content ≢ Other) ⊎ (copies ≡ true))
whole_at copies place part total content is (inl few) = (omega arith, inl few)
whole_at copies place part total content is (inr keeps) = (
  omega (arith, keeps.3, (frame_good place.sections place.big part keeps.0 keeps.1).most),
  elim (keeps.4) [ inl copied ↦ inr (inr copied) | inr needed ↦ inr (inl (not_other place part total content keeps.0 is keeps.1 needed)) ],
)

pub whole_frugal : (old new : BlockFeed) (held : HeldBlock) (total : ℕ) (content : Content) → front_at (place_of old) old.part.items ≡ Whole total content → GrowsFrugally old.copies (place_of old) old.part.items
    → new.copies ≡ old.copies → new.passing ≡ None → new.held ≡ Some held → held.content ≡ content → new.part.items ≡ old.part.items → IsFrugal new
whole_frugal old new held total content is grows copies resting holds says part = rw (copies, resting, holds, part) (rw says (whole_at old.copies (place_of old) old.part.items total content is grows))

pub passing_frugal : (feed : BlockFeed) (passing : Passing) → feed.passing ≡ Some passing → IsFrugal feed → length feed.part.items < 4
passing_frugal feed passing is f = rw is at f

pub frugal_passing : (feed : BlockFeed) (passing : Passing) → feed.passing ≡ Some passing → length feed.part.items < 4 → IsFrugal feed
frugal_passing feed passing is few = rw is few

pub nothing_kept : {B : Type 0} → (part : List ℕ) → part ≡ [] → (length part < 12) ⊎ B
nothing_kept part empty = inl (omega (arith, ap length empty))
