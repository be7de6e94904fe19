use Rattle.std.proofs.Common.{◌≡◌, ◌+◌, ◌-◌, ℕ, List, [], ◌∷◌, ◌++◌, min, length, arith, ap, sym, ◌∙◌, length-append}
use Rattle.pcap_reader.specs.declared.capture.CapturedPacket.{CapturedPacket}
use Rattle.capture_reader.proofs.SharingLemmas.{lies_at, of_packet}
use Rattle.capture_reader.proofs.sharing.share_block.Goals as goal

abbrev packet_of : List ℕ → ℕ → CapturedPacket
packet_of bytes original = record { bytes = bytes; original = original }

pub returns : goal.returns
returns c =
    let packet = of_packet c.args.block.content c.args.block.bytes.now c.in-Some.entry c.in-Some.bytes.now c.in-Some.ensures in
    let start = length c.as_slice.result.now - length c.args.rest.now - length c.args.block.bytes.now + c.min.result in
    let at : start ≡ length c.requires.0 + min (length c.args.block.bytes.now) c.in-Some.entry.start =
    omega (arith, c.min.ensures, ap length c.as_slice.ensures, ap length c.requires.1, length-append c.requires.0 (c.args.block.bytes.now ++ c.args.rest.now), length-append c.args.block.bytes.now c.args.rest.now) in
    let lies = lies_at c.args.file.now c.requires.0 c.args.block.bytes.now c.args.rest.now c.in-Some.entry c.in-Some.bytes.now start c.requires.1 packet.1 at in
    c.in_ok-push.ensures.items
    ∙ ap (λ (p : CapturedPacket). c.args.packets.now.items ++ p ∷ []) (c.new.ensures ∙ ap (λ b. packet_of b c.in-Some.entry.original) (c.in_ok-shared.ensures ∙ lies.are))
    ∙ ap (λ t. c.args.packets.now.items ++ t) (sym packet.0)
