use Rattle.std.proofs.Common.{map, subst, sym, refl, arith}
use Rattle.core_machine.proofs.Lists.{get_indexed}
use Rattle.core_machine.specs.Rounds.{CoreRests, HasAllDecided}
use Rattle.core_machine.proofs.Listing.{get_core, map_end, resting_none, resting_more, all_resting, one_restless}
use Rattle.core_machine.proofs.settling.at_rest.Goals as goal

pub loop-core-init : goal.loop-core-init
loop-core-init g c = resting_none _

pub loop-core-preserved : goal.loop-core-preserved
loop-core-preserved g c =
    let core = g.T.Member.core in let cores = c.args.cores.now in let k = c.loop-core.core-index in
    let at = get_core core cores k c.core-item.result (get_indexed cores k c.core-item.result c.core-item.is (omega arith)) in
    resting_more k (map core cores) (core c.core-item.result) at (subst CoreRests c.core.ensures (c.rests.ensures.rests.0 c.if-not-rests.false)) (subst HasAllDecided c.core.ensures (c.rests.ensures.decided c.if-not-rests.false))
    c.loop-core.invariant

pub returns-then-not-rests-clause-rests : goal.returns-then-not-rests-clause-rests
returns-then-not-rests-clause-rests g c =
    let core = g.T.Member.core in let cores = c.args.cores.now in let k = c.loop-core.core-index in
    let at = get_core core cores k c.core-item.result (get_indexed cores k c.core-item.result c.core-item.is (omega arith)) in (
      λ t. absurd cc,
      λ all. absurd (let rests = c.rests.ensures.rests.1 (subst CoreRests (sym c.core.ensures) (one_restless (map core cores) k (core c.core-item.result) at all)) in let not = c.if-not-rests.true in cc),
    )

pub returns-clause-rests : goal.returns-clause-rests
returns-clause-rests g c =
    let core = g.T.Member.core in
    (λ t. (all_resting c.loop-core.core-index (map core c.args.cores.now) (map_end core c.args.cores.now c.loop-core.core-index (omega arith)) c.loop-core.invariant).0, λ all. refl)

pub returns-clause-decided : goal.returns-clause-decided
returns-clause-decided g c =
    let core = g.T.Member.core in
    λ t. (all_resting c.loop-core.core-index (map core c.args.cores.now) (map_end core c.args.cores.now c.loop-core.core-index (omega arith)) c.loop-core.invariant).1
