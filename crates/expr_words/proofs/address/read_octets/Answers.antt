use Rattle.std.proofs.Common.{◌≤◌, ◌<◌, ◌+◌, length, length-drop, add-one, sym, ◌∙◌, arith}
use Rattle.std.proofs.lemmas.List.{take_rest}
use Rattle.std.proofs.Math.Nat.{pow-le-pow_right, pow-suc}
use Rattle.expr_words.specs.AddressViews.{summed}
use Rattle.expr_words.proofs.AddressLemmas.{no_octet, octet_too_many, one_octet, last_octet}
use Rattle.expr_words.proofs.address.read_octets.Goals as goal

pub returns-in_err-part-clause-octets : goal.returns-in_err-part-clause-octets
unfolding summed
returns-in_err-part-clause-octets c =
    c.from_residual.ensures ∙ sym (no_octet c.args.base c.args.separator c.parts.count c.parts.value c.parts.rest.now c.find-end.result c.find-end.ensures.place c.find-end.ensures.bound
    (sym c.octet.ensures.value ∙ c.in_err-part.was)) ∙ c.parts.invariant.onward

pub returns-then-count-eq6-clause-octets : goal.returns-then-count-eq6-clause-octets
unfolding summed
returns-then-count-eq6-clause-octets c =
    sym (octet_too_many c.args.base c.args.separator c.parts.count c.parts.value c.parts.rest.now c.find-end.result c.in_ok-part.part c.find-end.ensures.place c.find-end.ensures.bound
    (sym c.octet.ensures.value ∙ c.in_ok-part.was) c.if-count-eq6.true) ∙ c.parts.invariant.onward

pub overflow_mul-value : goal.overflow_mul-value
overflow_mul-value c =
    let positive : 0 < 256 = omega arith in
    let five : c.parts.count ≤ 5 = omega arith in
    let most = pow-le-pow_right positive five in
    omega (arith, most, c.parts.invariant.small)

pub overflow_add-value : goal.overflow_add-value
overflow_add-value c =
    let positive : 0 < 256 = omega arith in
    let five : c.parts.count ≤ 5 = omega arith in
    let most = pow-le-pow_right positive five in
    let small : c.in_ok-part.part < 256 = c.in_ok-part.ensures.small in
    omega (arith, most, c.parts.invariant.small, c.from.ensures)

pub returns-then-end-rest-clause-octets : goal.returns-then-end-rest-clause-octets
unfolding summed
returns-then-end-rest-clause-octets c =
    let five : c.parts.count ≤ 5 = omega arith in
    rw c.from.ensures (sym (last_octet c.args.base c.args.separator c.parts.count c.parts.value c.parts.rest.now c.find-end.result c.in_ok-part.part c.find-end.ensures.place c.if-end-rest.true
    (sym c.octet.ensures.value ∙ c.in_ok-part.was) five) ∙ c.parts.invariant.onward)

pub returns-then-end-rest-clause-small : goal.returns-then-end-rest-clause-small
returns-then-end-rest-clause-small c =
    let small : c.in_ok-part.part < 256 = c.in_ok-part.ensures.small in
    rw (add-one, pow-suc) (omega (arith, c.parts.invariant.small, c.from.ensures))

pub parts-preserved : goal.parts-preserved
parts-preserved c =
    let rest = c.parts.rest.now in
    let end = c.find-end.result in
    let after = take_rest rest (end + 1) in
    let within : end < length rest = omega arith in
    let five : c.parts.count ≤ 5 = omega arith in
    let small : c.in_ok-part.part < 256 = c.in_ok-part.ensures.small in
    record {
      inside = rw after (omega (arith, length-drop (end + 1) rest));
      few = omega arith;
      small = rw (add-one, pow-suc) (omega (arith, c.parts.invariant.small, c.from.ensures));
      onward = rw (after, c.from.ensures) (sym (one_octet c.args.base c.args.separator c.parts.count c.parts.value rest end c.in_ok-part.part c.find-end.ensures.place within
          (sym c.octet.ensures.value ∙ c.in_ok-part.was)) ∙ c.parts.invariant.onward);
    }
