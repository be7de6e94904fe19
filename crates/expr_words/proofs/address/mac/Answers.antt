use Rattle.std.proofs.Common.{◌<◌, length, sym, ◌∙◌, arith}
use Rattle.expr_words.specs.Address.{mac, mac_of, all_octets, parts}
use Rattle.expr_words.specs.AddressViews.{summed}
use Rattle.expr_words.proofs.AddressLemmas.{mac_answer, summed_none, none_of_many, no_mac_of}
use Rattle.expr_words.proofs.address.mac.Goals as goal

pub returns-in_err-octets : goal.returns-in_err-octets
unfolding mac summed
returns-in_err-octets c =
    let o = all_octets 16 (parts c.args.separator c.args.text.now) in
    c.from_residual.ensures ∙ sym (none_of_many mac_of o (λ ns is.
    let many : 6 < length ns = summed_none o (sym c.read_octets.ensures.octets ∙ c.in_err-octets.was) ns is in
    no_mac_of ns (omega arith)))

pub returns : goal.returns
unfolding mac summed
returns c =
    c.then_some.ensures ∙ mac_answer (all_octets 16 (parts c.args.separator c.args.text.now)) c.in_ok-octets.octets (sym c.read_octets.ensures.octets ∙ c.in_ok-octets.was)
