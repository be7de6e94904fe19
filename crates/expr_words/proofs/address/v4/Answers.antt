use Rattle.std.proofs.Common.{◌<◌, length, sym, ◌∙◌, arith}
use Rattle.expr_words.specs.Address.{v4, v4_of, all_octets, parts}
use Rattle.expr_words.specs.AddressViews.{summed}
use Rattle.expr_words.proofs.AddressLemmas.{v4_answer, no_v4, summed_none, none_of_many, no_v4_of, v4_two, v4_three, v4_four}
use Rattle.expr_words.proofs.address.v4.Goals as goal

pub returns-in_err-octets : goal.returns-in_err-octets
unfolding v4 summed
returns-in_err-octets c =
    let o = all_octets 10 (parts 46 c.args.text.now) in
    c.from_residual.ensures ∙ sym (none_of_many v4_of o (λ ns is.
    let many : 6 < length ns = summed_none o (sym c.read_octets.ensures.octets ∙ c.in_err-octets.was) ns is in
    no_v4_of ns (omega arith) (omega arith) (omega arith)))

pub returns-then-octets-eq2 : goal.returns-then-octets-eq2
unfolding v4 summed
returns-then-octets-eq2 c =
    v4_answer (all_octets 10 (parts 46 c.args.text.now)) c.in_ok-octets.octets 2 65536 16 c.padded.result (sym c.read_octets.ensures.octets ∙ c.in_ok-octets.was)
    c.if-octets-eq2.true v4_two c.padded.ensures.address c.padded.ensures.bits

pub returns-then-octets-eq3 : goal.returns-then-octets-eq3
unfolding v4 summed
returns-then-octets-eq3 c =
    v4_answer (all_octets 10 (parts 46 c.args.text.now)) c.in_ok-octets.octets 3 256 24 c.padded-then-octets-eq3.result (sym c.read_octets.ensures.octets ∙ c.in_ok-octets.was)
    c.if-octets-eq3.true v4_three c.padded-then-octets-eq3.ensures.address c.padded-then-octets-eq3.ensures.bits

pub returns-then-octets-eq4 : goal.returns-then-octets-eq4
unfolding v4 summed
returns-then-octets-eq4 c =
    v4_answer (all_octets 10 (parts 46 c.args.text.now)) c.in_ok-octets.octets 4 1 32 c.padded-then-octets-eq4.result (sym c.read_octets.ensures.octets ∙ c.in_ok-octets.was)
    c.if-octets-eq4.true v4_four c.padded-then-octets-eq4.ensures.address c.padded-then-octets-eq4.ensures.bits

pub returns : goal.returns
unfolding v4 summed
returns c =
    no_v4 (all_octets 10 (parts 46 c.args.text.now)) c.in_ok-octets.octets (sym c.read_octets.ensures.octets ∙ c.in_ok-octets.was)
    c.if-octets-eq2.false c.if-octets-eq3.false c.if-octets-eq4.false
