-- The captured bytes of each packet lie in its block.
use Rattle.std.proofs.Common.{◌≡◌, ℕ, ◌+◌, ◌-◌, ◌≤◌, ◌==◌, nat_lt, Bool, false, List, length, take, drop, slice_get, arith, refl, ap, sym, ◌∙◌, inl, inr, length-drop, length-take-le, Option, Some, None, Result, Ok, Err}
use Rattle.std.proofs.lemmas.Bool.Decides.{nat_tests}
use Rattle.std.proofs.lemmas.List.{take_all}
use Rattle.pcap_reader.specs.Savefile.{number}
use Rattle.pcapng_reader.specs.declared.frame.Frame.{Frame}
use Rattle.pcapng_reader.specs.declared.front.Front.TheVariants.{Whole}
use Rattle.pcapng_reader.specs.declared.block.InterfaceDescription.{InterfaceDescription}
use Rattle.pcapng_reader.specs.declared.block.PacketEntry.{PacketEntry}
use Rattle.pcapng_reader.specs.declared.block.Content.{Content}
use Rattle.pcapng_reader.specs.declared.block.Content.TheVariants.{Section, Interface, Packet, Other}
use Rattle.pcapng_reader.specs.declared.block.BlockError.{BlockError}
use Rattle.pcapng_reader.specs.declared.block.BlockError.TheVariants.{LengthNotRepeated, TooLong, BadCaptured}
use Rattle.pcapng_reader.specs.Blocks.{content_in, content_by, header_in, described_in, enhanced_in, simple_in, obsolete_in, packet_in, packet_of, simple_of, if_fitting, fitting, simple_captured}
use Rattle.pcapng_reader.specs.Grammar.{front_in}
use Rattle.pcapng_reader.specs.Packets.{FitTheirBlocks}
use Rattle.pcapng_reader.proofs.FrontLemmas.{Begins, begins_few, begins_bad, begins_part, begins_all, begins, chosen, guard_ok, outcome_whole}

-- the bytes of a packet fit in so many
pub record IsWithin (entry : PacketEntry) (total : ℕ) : Type 0 where
  pub few : entry.captured ≤ 262144
  pub room : entry.start + entry.captured + 4 ≤ total

fits_within : (r : Result (Unit {0}) BlockError) (start captured total : ℕ) → fitting start captured total ≡ r → (done : Unit {0}) → r ≡ Ok done → (captured ≤ 262144) × (start + captured + 4 ≤ total)
fits_within r start captured total is done ok =
    let first = guard_ok (nat_lt 262144 captured) TooLong _ done (is ∙ ok) in
    let second = guard_ok (nat_lt total (start + captured + 4)) BadCaptured _ done first.1 in
    (not_lt 262144 captured first.0, not_lt total (start + captured + 4) second.0)
  where
    not_lt : (a b : ℕ) → nat_lt a b ≡ false → b ≤ a
    not_lt a b e = grind (arith, nat_tests)

fitting_within : (r : Result (Unit {0}) BlockError) (packet entry : PacketEntry) (total : ℕ) → fitting packet.start packet.captured total ≡ r → if_fitting r packet ≡ Ok (Packet entry) → IsWithin entry total
fitting_within (Err error) packet entry total is e = absurd (cc)
fitting_within (Ok done) packet entry total is e =
    let same : packet ≡ entry = cc in
    let fits = fits_within (Ok done) packet.start packet.captured total is done refl in
    let within : IsWithin packet total = record { few = fits.0; room = fits.1 } in
    rw same at within

packet_within : (sections : ℕ) (described : Option InterfaceDescription) (interface : ℕ) (big : Bool) (block : List ℕ) (entry : PacketEntry) → packet_of sections described interface big block ≡ Ok (Packet entry) → IsWithin entry (length block)
packet_within sections None interface big block entry e = absurd (cc)
packet_within sections (Some described) interface big block entry e = fitting_within (fitting 28 (number big 4 (drop 20 block)) (length block)) _ entry (length block) refl e

simple_within : (sections : ℕ) (described : Option InterfaceDescription) (big : Bool) (block : List ℕ) (entry : PacketEntry) → simple_of sections described big block ≡ Ok (Packet entry) → IsWithin entry (length block)
simple_within sections None big block entry e = absurd (cc)
simple_within sections (Some described) big block entry e = fitting_within (fitting 12 (simple_captured described.snaplen (number big 4 (drop 8 block))) (length block)) _ entry (length block) refl e

packets_within : (sections : ℕ) (interfaces : List InterfaceDescription) (interface : ℕ) (big : Bool) (block : List ℕ) (entry : PacketEntry) → packet_in sections interfaces interface big block ≡ Ok (Packet entry) → IsWithin entry (length block)
unfolding packet_in
packets_within sections interfaces interface big block entry e = packet_within sections _ interface big block entry e

-- those of an enhanced packet block begin behind its fields
fitting_start : (r : Result (Unit {0}) BlockError) (packet entry : PacketEntry) → if_fitting r packet ≡ Ok (Packet entry) → entry.start ≡ packet.start
fitting_start (Err error) packet entry e = absurd (cc)
fitting_start (Ok done) packet entry e = let same : packet ≡ entry = cc in rw same refl

packet_start : (sections : ℕ) (described : Option InterfaceDescription) (interface : ℕ) (big : Bool) (block : List ℕ) (entry : PacketEntry) → packet_of sections described interface big block ≡ Ok (Packet entry) → entry.start ≡ 28
packet_start sections None interface big block entry e = absurd (cc)
packet_start sections (Some described) interface big block entry e = fitting_start (fitting 28 (number big 4 (drop 20 block)) (length block)) _ entry e

pub enhanced_start : (sections : ℕ) (interfaces : List InterfaceDescription) (big : Bool) (block : List ℕ) (entry : PacketEntry) → enhanced_in sections interfaces big block ≡ Ok (Packet entry) → entry.start ≡ 28
unfolding enhanced_in packet_in
enhanced_start sections interfaces big block entry e = packet_start sections (slice_get interfaces (number big 4 (drop 8 block))) (number big 4 (drop 8 block)) big block entry e

pub enhanced_within : (sections : ℕ) (interfaces : List InterfaceDescription) (big : Bool) (block : List ℕ) (entry : PacketEntry) → enhanced_in sections interfaces big block ≡ Ok (Packet entry) → IsWithin entry (length block)
unfolding enhanced_in
enhanced_within sections interfaces big block entry e = packets_within sections interfaces (number big 4 (drop 8 block)) big block entry e

header_apart : (big : Bool) (block : List ℕ) (entry : PacketEntry) → header_in big block ≡ Ok (Packet entry) → ⊥
unfolding header_in
header_apart big block entry e = elim (chosen (number big 2 (drop 12 block) == 1) _ _ _ e) [ inl one ↦ section_apart one.1 | inr other ↦ error_apart other.1 ]
  where
    section_apart : {h : _} → ◌≡◌ {A = Result Content BlockError} (Ok (Section h)) (Ok (Packet entry)) → ⊥
    section_apart e = cc

    error_apart : {b : BlockError} → ◌≡◌ {A = Result Content BlockError} (Err b) (Ok (Packet entry)) → ⊥
    error_apart e = cc

kind_within : (sections : ℕ) (interfaces : List InterfaceDescription) (big : Bool) (kind : ℕ) (block : List ℕ) (entry : PacketEntry) → content_by sections interfaces big kind block ≡ Ok (Packet entry) → IsWithin entry (length block)
unfolding enhanced_in obsolete_in simple_in
kind_within sections interfaces big kind block entry e = elim (chosen (kind == 0x0a0d0d0a) _ _ _ e) [
  | inl is ↦ absurd (header_apart big block entry is.1)
  | inr a ↦ elim (chosen (kind == 1) _ _ _ a.1) [
    | inl is ↦ absurd (described_apart is.1)
    | inr b ↦ elim (chosen (kind == 6) _ _ _ b.1) [
      | inl is ↦ packets_within sections interfaces (number big 4 (drop 8 block)) big block entry is.1
      | inr c ↦ elim (chosen (kind == 3) _ _ _ c.1) [
        | inl is ↦ simple_within sections (slice_get interfaces 0) big block entry is.1
        | inr d ↦ elim (chosen (kind == 2) _ _ _ d.1) [
          | inl is ↦ packets_within sections interfaces (number big 2 (drop 8 block)) big block entry is.1
          | inr o ↦ absurd (other_apart o.1)
        ]
      ]
    ]
  ]
]
  where
    other_apart : ◌≡◌ {A = Result Content BlockError} (Ok Other) (Ok (Packet entry)) → ⊥
    other_apart e = cc

    interface_apart : {i : InterfaceDescription} → ◌≡◌ {A = Result Content BlockError} (Ok (Interface i)) (Ok (Packet entry)) → ⊥
    interface_apart e = cc

    error_apart : {b : BlockError} → ◌≡◌ {A = Result Content BlockError} (Err b) (Ok (Packet entry)) → ⊥
    error_apart e = cc

    described_apart : described_in interfaces big block ≡ Ok (Packet entry) → ⊥
    described_apart e = elim (chosen (nat_lt (length interfaces) 65536) _ _ _ e) [ inl room ↦ interface_apart room.1 | inr none ↦ error_apart none.1 ]

content_within : (sections : ℕ) (interfaces : List InterfaceDescription) (frame : Frame) (block : List ℕ) (entry : PacketEntry) → content_in sections interfaces frame block ≡ Ok (Packet entry) → IsWithin entry (length block)
unfolding content_in
content_within sections interfaces frame block entry e = elim (chosen (number frame.big 4 (drop (length block - 4) block) == frame.total) _ _ _ e) [
  | inl repeated ↦ kind_within sections interfaces frame.big frame.kind block entry repeated.1
  | inr other ↦ absurd (repeated_apart other.1)
]
  where
    repeated_apart : ◌≡◌ {A = Result Content BlockError} (Err LengthNotRepeated) (Ok (Packet entry)) → ⊥
    repeated_apart e = cc

begun_within : (sections : ℕ) (big : Bool) (interfaces : List InterfaceDescription) (bytes : List ℕ) (entry : PacketEntry) → front_in sections big interfaces bytes ≡ Whole (length bytes) (Packet entry) → Begins sections big interfaces bytes
    → IsWithin entry (length bytes)
begun_within sections big interfaces bytes entry whole (begins_few short is) = absurd (cc)
begun_within sections big interfaces bytes entry whole (begins_bad error long framed is) = absurd (cc)
begun_within sections big interfaces bytes entry whole (begins_part frame long framed short is) = absurd (cc)
begun_within sections big interfaces bytes entry whole (begins_all frame long framed within is) =
    let out = outcome_whole frame.total (length bytes) (content_in sections interfaces frame (take frame.total bytes)) (Packet entry) (sym is ∙ whole) in
    let all : take frame.total bytes ≡ bytes = take_all frame.total bytes (omega (arith, out.0)) in
    content_within sections interfaces frame bytes entry (ap (content_in sections interfaces frame) (sym all) ∙ out.1)

pub fit_their_blocks : FitTheirBlocks
fit_their_blocks place block entry one is =
    let within = begun_within place.sections place.big place.interfaces block.bytes entry (one.says ∙ ap (Whole (length block.bytes)) is) (begins place.sections place.big place.interfaces block.bytes) in
    (within.few, within.room, length-take-le entry.captured (drop entry.start block.bytes) (omega (arith, length-drop entry.start block.bytes, within.room)))
