use Rattle.std.proofs.Common.{◌-◌, arith, refl}
use Rattle.std.proofs.lemmas.Option.{slice_get_within}
use Rattle.filter_group.proofs.equality.Equality.within.Goals as goal

pub returns : goal.returns
returns c = λ marks slots pc n at_mark at_slot. record {
  there = refl;
  jt = refl;
  jf = refl;
  silent = refl;
  kept = λ k listed between.
      let at = listed n c.args.slot.now at_mark at_slot in
      let low = slice_get_within c.args.slot.now.constants.items at.0 k at.1 in
      let rise = c.all_rise.ensures c.if-not-all_rise.false in
      let count = c.len-count.ensures.count in
      record {
        least = rise 0 at.0 c.at.result.now k (omega arith) (omega arith) low c.at.ensures at.1;
        most = rise at.0 (c.len-count.result - 1) k c.at-2.result.now (omega arith) (omega arith) (omega arith) at.1 c.at-2.ensures;
      };
}
