-- Enhanced packet blocks, apart from other blocks.
use Rattle.std.proofs.Common.{◌≡◌, ℕ, ◌+◌, ◌-◌, ◌≤◌, ◌==◌, Bool, true, List, length, take, drop, arith, refl, ap, sym, ◌∙◌, length-take-le, eq-eqb, Option, Some, None, Ok}
use Rattle.std.specs.Prelude.{IfSome}
use Rattle.pcap_reader.specs.Savefile.{number}
use Rattle.pcapng_reader.specs.declared.block.Content.TheVariants.{Packet}
use Rattle.pcapng_reader.specs.declared.block.InterfaceDescription.{InterfaceDescription}
use Rattle.pcapng_reader.specs.declared.block.PacketEntry.{PacketEntry}
use Rattle.pcapng_reader.specs.declared.frame.Frame.{Frame}
use Rattle.pcapng_reader.specs.declared.front.Front.TheVariants.{Whole}
use Rattle.pcapng_reader.specs.declared.front.PacketFront.{PacketFront}
use Rattle.pcapng_reader.specs.Blocks.{content_in, enhanced_in, frame_in}
use Rattle.pcapng_reader.specs.Grammar.{framed_in, outcome_of}
use Rattle.pcapng_reader.specs.Growth.{IsFramedPacket, IsPacketFront}
use Rattle.pcapng_reader.specs.Packets.{captured_in}
use Rattle.pcapng_reader.proofs.FrontLemmas.{framed_all, front_long}
use Rattle.pcapng_reader.proofs.PacketLemmas.{enhanced_start, enhanced_within}

content_enhanced : (sections : ℕ) (interfaces : List InterfaceDescription) (frame : Frame) (block : List ℕ) → frame.kind ≡ 6 → number frame.big 4 (drop (length block - 4) block) ≡ frame.total
    → content_in sections interfaces frame block ≡ enhanced_in sections interfaces frame.big block
unfolding content_in
content_enhanced sections interfaces frame block kind repeated =
    let same : (number frame.big 4 (drop (length block - 4) block) == frame.total) ≡ true = eq-eqb _ _ repeated in
    rw same (rw kind refl)

-- bytes with a good front that begin with one
packet_front : (sections : ℕ) (big : Bool) (interfaces : List InterfaceDescription) (bytes : List ℕ) (frame : Frame) (front : PacketFront) → 12 ≤ length bytes → frame_in sections big bytes ≡ Ok frame
    → IsFramedPacket sections interfaces frame bytes front → IsPacketFront sections big interfaces bytes front
packet_front sections big interfaces bytes frame front long framed is =
    let block = take frame.total bytes in
    let room = (enhanced_within sections interfaces frame.big block front.packet is.says).room in
    let start = enhanced_start sections interfaces frame.big block front.packet is.says in
    record {
      whole = front_long sections big interfaces bytes long ∙ (ap (λ f. framed_in sections interfaces f bytes) framed
          ∙ (framed_all sections interfaces frame bytes is.within
          ∙ (ap (outcome_of frame.total) (content_enhanced sections interfaces frame block is.kind is.repeated ∙ is.says) ∙ ap (λ n. Whole n (Packet front.packet)) (sym is.total))));
      start = start;
      fits = omega (arith, room, start, is.total, length-take-le frame.total bytes is.within);
      within = omega (arith, is.total, is.within);
    }

pub front_of_packet : (sections : ℕ) (big : Bool) (interfaces : List InterfaceDescription) (bytes : List ℕ) (frame : Frame) (o : Option PacketFront) → 12 ≤ length bytes → frame_in sections big bytes ≡ Ok frame
    → IfSome o (IsFramedPacket sections interfaces frame bytes) → IfSome o (IsPacketFront sections big interfaces bytes)
front_of_packet sections big interfaces bytes frame None long framed is = tt
front_of_packet sections big interfaces bytes frame (Some front) long framed is = packet_front sections big interfaces bytes frame front long framed is

pub captured_bytes : (entry : PacketEntry) (block : List ℕ) → entry.start ≡ 28 → take (28 + entry.captured - 28) (drop 28 block) ≡ captured_in entry block
captured_bytes entry block start = let same : 28 + entry.captured - 28 ≡ entry.captured = omega arith in rw (same, start) refl
