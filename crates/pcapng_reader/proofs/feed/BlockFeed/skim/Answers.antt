use Rattle.std.proofs.Common.{◌∙◌, ap, refl}
use Rattle.pcapng_reader.specs.declared.block.Content.TheVariants.{Packet}
use Rattle.pcapng_reader.specs.declared.seen.Block.{Block}
use Rattle.pcapng_reader.specs.Held.{place_of}
use Rattle.pcapng_reader.proofs.FeedLemmas.{shorter_rest, takes_block}
use Rattle.pcapng_reader.proofs.FrugalLemmas.{empty_frugal}
use Rattle.pcapng_reader.proofs.SkimLemmas.{captured_bytes}
use Rattle.pcapng_reader.proofs.feed.BlockFeed.skim.Goals as goal

pub returns-clause-skims : goal.returns-clause-skims
returns-clause-skims c =
    let old = c.args.self.now in
    let rests = c.is_at_a_block.ensures c.if-not-is_at_a_block.false in
    let front = rw c.as_slice.ensures.value at c.in_ok-front.ensures in
    let enters = c.pass_packet.ensures c.in_ok-front.front.packet in
    let block : Block = record { offset = old.offset; bytes = c.split_at.result.0; content = Packet c.in_ok-front.front.packet } in
    record {
      takes = takes_block c.args.rest.now.now c.split_at.result.1.now old c.pass_packet.new.self (Packet c.in_ok-front.front.packet) c.in_ok-front.front.total block
          (record { offset = refl; lies = c.split_at.ensures.front; content = refl; left = c.split_at.ensures.back; enters = enters }) rests.0 rests.1 rests.2 rests.3 front.whole;
      captured = captured_bytes c.in_ok-front.front.packet c.split_at.result.0.now front.start;
      going = (rests.0, enters.fault ∙ rests.0);
      copies = enters.copies;
      shorter = shorter_rest (place_of old) c.args.rest.now.now c.split_at.result.1.now c.in_ok-front.front.total (Packet c.in_ok-front.front.packet) front.whole c.split_at.ensures.back;
    }

pub returns-clause-frugal : goal.returns-clause-frugal
returns-clause-frugal c = λ f.
    let rests = c.is_at_a_block.ensures c.if-not-is_at_a_block.false in
    let front = rw c.as_slice.ensures.value at c.in_ok-front.ensures in
    let enters = c.pass_packet.ensures c.in_ok-front.front.packet in
    empty_frugal c.pass_packet.new.self (enters.passing ∙ rests.2) (enters.held ∙ rests.1) (ap (λ v. v.items) enters.part ∙ rests.3)
