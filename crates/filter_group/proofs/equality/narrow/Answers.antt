use Rattle.std.proofs.Common.{arith, get_or}
use Rattle.std.proofs.lemmas.Option.{slice_get-get_or, slice_get_within}
use Rattle.filter_group.specs.Equalities.{IsNarrower}
use Rattle.filter_group.proofs.Equalities.{no_equality}
use Rattle.filter_group.proofs.InTurn.{done_more}
use Rattle.filter_group.proofs.equality.narrow.Goals as goal

pub loop-pc-preserved : goal.loop-pc-preserved
loop-pc-preserved c =
    let xs = c.loop-pc.equalities in
    let here = c.loop-pc.pc in
    done_more (IsNarrower c.args.marks.now c.args.slots.now) here c.args.equalities.now xs (get_or xs here no_equality) c.narrowed.result c.loop-pc.invariant
    (slice_get-get_or xs here no_equality (omega arith)) c.narrowed.ensures

pub returns : goal.returns
returns c = record {
  count = c.loop-pc.invariant.many;
  each = λ pc old equality at_old at. let inside = slice_get_within c.loop-pc.equalities pc equality at in c.loop-pc.invariant.done pc old equality (omega arith) at_old at;
}
