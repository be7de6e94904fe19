use Rattle.std.proofs.Common.{map}
use Rattle.std.proofs.lemmas.Result.{IfOk-weaker}
use Rattle.command_line.proofs.Laws.{checked, drawn, dumped, explained, graphed, kept, matched, viewed}
use Rattle.command_line.proofs.request.request_of.Goals as goal

pub returns : goal.returns
returns g c =
    let words = map g.S.AsStr.text c.args.words.now in
    record {
      asked = c.parsed.ensures.asked;
      taken = c.parsed.ensures.taken;
      matched = λ code pcap stream spells digit. IfOk-weaker c.parsed.result _ _ (λ r asks. matched words r asks code pcap stream spells digit) c.parsed.ensures.asked;
      viewed = λ code pcap view spells digit. IfOk-weaker c.parsed.result _ _ (λ r asks. viewed words r asks code pcap view spells digit) c.parsed.ensures.asked;
      explained = λ code spells digit. IfOk-weaker c.parsed.result _ _ (λ r asks. explained words r asks code spells digit) c.parsed.ensures.asked;
      kept = λ code inverted spells digit. IfOk-weaker c.parsed.result _ _ (λ r asks. kept words r asks code inverted spells digit) c.parsed.ensures.asked;
      checked = λ asm spells. IfOk-weaker c.parsed.result _ _ (λ r asks. checked words r asks asm spells) c.parsed.ensures.asked;
      graphed = λ spells. IfOk-weaker c.parsed.result _ _ (λ r asks. graphed words r asks spells) c.parsed.ensures.asked;
      dumped = λ spells. IfOk-weaker c.parsed.result _ _ (λ r asks. dumped words r asks spells) c.parsed.ensures.asked;
      drawn = λ plain spells. IfOk-weaker c.parsed.result _ _ (λ r asks. drawn words r asks plain spells) c.parsed.ensures.asked;
    }
