use Rattle.std.proofs.Common.{◌≡◌, ap, arith, refl, ◌∙◌}
use Rattle.pcap_reader.specs.Savefile.{captured, number}
use Rattle.pcap_reader.proofs.FeedLemmas.{split_front, to_end}
use Rattle.savefile_front.proofs.front.front_of.Goals as goal

pub returns : goal.returns
returns c =
    let is : c.word_at-captured.result ≡ captured c.args.big c.args.bytes.now = c.word_at-captured.ensures ∙ ap (number c.args.big 4) (to_end 8 c.args.bytes.now) in (
      omega arith,
      split_front c.args.big c.args.bytes.now c.word_at-captured.result _ (is, omega arith, omega arith) refl c.word_at.ensures,
    )
