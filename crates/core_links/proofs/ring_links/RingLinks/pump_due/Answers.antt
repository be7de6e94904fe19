use Rattle.std.proofs.Common.{◌∙◌, arith, rules, w64}
use Rattle.std.proofs.lemmas.Nat.Bits.{bit_at-trailing_zeros}
use Rattle.core_links.proofs.Pumping.{begun, less_without, one_bit_more, bits_done, one_place_more, all_moved_on}
use Rattle.core_links.proofs.ring_links.RingLinks.pump_due.Goals as goal

pub bits-init : goal.bits-init
bits-init c = begun c.args.due c.args.slots.now _ c.requires (search rules)

pub bits-smaller : goal.bits-smaller
bits-smaller c =
    let lowest = bit_at-trailing_zeros w64 c.bits.left (omega arith) (search rules) in
    less_without c.bits.left _ lowest.0 lowest.1

pub bits-preserved : goal.bits-preserved
bits-preserved c =
    let lowest = bit_at-trailing_zeros w64 c.bits.left (omega arith) (search rules) in
    one_bit_more c.bits.left _ c.args.slots.now c.bits.slots c.pump_at.new.slots c.bits.marks c.pump_at.new.marks lowest.0 lowest.1 c.bits.invariant c.pump_at.ensures

pub others-init : goal.others-init
others-init c = bits_done c.bits.left c.args.slots.now c.bits.slots c.bits.marks c.bits-test.false c.bits.invariant

pub others-preserved : goal.others-preserved
others-preserved c = one_place_more c.others.place c.args.slots.now c.others.slots c.pump_at-in-others.new.slots c.others.marks c.pump_at-in-others.new.marks c.others.invariant c.pump_at-in-others.ensures

pub returns-clause-each : goal.returns-clause-each
returns-clause-each c = (all_moved_on c.others.place c.args.slots.now c.others.slots c.others.marks (search rules) (search rules) (c.others.auto.slots ∙ c.bits.auto.slots) c.others.invariant).each

pub returns-clause-moves : goal.returns-clause-moves
returns-clause-moves c = (all_moved_on c.others.place c.args.slots.now c.others.slots c.others.marks (search rules) (search rules) (c.others.auto.slots ∙ c.bits.auto.slots) c.others.invariant).moves

pub returns-clause-dues : goal.returns-clause-dues
returns-clause-dues c = (all_moved_on c.others.place c.args.slots.now c.others.slots c.others.marks (search rules) (search rules) (c.others.auto.slots ∙ c.bits.auto.slots) c.others.invariant).dues
