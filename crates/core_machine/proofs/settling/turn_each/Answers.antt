use Rattle.std.proofs.Common.{◌+◌, List, map, subst, sym, arith}
use Rattle.std.proofs.lemmas.List.{map-set}
use Rattle.core_machine.specs.Machines.{RingCore}
use Rattle.core_machine.specs.Rounds.{AllKeep, HaltsAmong}
use Rattle.core_machine.proofs.Listing.{Turned, indexed_core, map_end, turned_none, turned_more, turned_keep, all_turned, halted_keep, halted_at}
use Rattle.core_machine.proofs.settling.turn_each.Goals as goal

pub loop-core-init : goal.loop-core-init
loop-core-init g c = turned_none _

pub loop-core-preserved : goal.loop-core-preserved
loop-core-preserved g c =
    let core = g.T.Member.core in let now = c.loop-core.cores in let k = c.loop-core.core-index in
    let at = indexed_core core now k c.core-item.result (omega arith) in
    subst (λ (l : List RingCore). Turned (k + 1) (map core c.args.cores.now) l) (sym (map-set core now k c.turn_one.new.core))
    (turned_more k (map core c.args.cores.now) (map core now) _ (core c.turn_one.new.core) c.loop-core.invariant at c.in_default.ensures.none)

pub returns-in-Some-clause-keeps : goal.returns-in-Some-clause-keeps
returns-in-Some-clause-keeps g c =
    let core = g.T.Member.core in let now = c.loop-core.cores in let k = c.loop-core.core-index in
    let at = indexed_core core now k c.core-item.result (omega arith) in
    subst (λ (l : List RingCore). AllKeep (map core c.args.cores.now) l) (sym (map-set core now k c.turn_one.new.core))
    (halted_keep k (map core c.args.cores.now) (map core now) _ (core c.turn_one.new.core) c.loop-core.invariant at c.turn_one.ensures.keeps)

pub returns-in-Some-clause-some : goal.returns-in-Some-clause-some
returns-in-Some-clause-some g c =
    let core = g.T.Member.core in let now = c.loop-core.cores in let k = c.loop-core.core-index in
    let at = indexed_core core now k c.core-item.result (omega arith) in
    let h = c.in-Some.halted in
    subst (λ (l : List RingCore). HaltsAmong g.T.Member.lists h.0 h.1 l) (sym (map-set core now k c.turn_one.new.core))
    (halted_at k (map core c.args.cores.now) (map core now) _ (core c.turn_one.new.core) c.loop-core.invariant at g.T.Member.lists h.0 h.1 c.in-Some.ensures.some.0 c.in-Some.ensures.some.1)

pub returns-clause-keeps : goal.returns-clause-keeps
returns-clause-keeps g c =
    let core = g.T.Member.core in
    turned_keep c.loop-core.core-index (map core c.args.cores.now) (map core c.loop-core.cores) (map_end core c.loop-core.cores c.loop-core.core-index (omega arith)) c.loop-core.invariant

pub returns-clause-none : goal.returns-clause-none
returns-clause-none g c =
    let core = g.T.Member.core in
    all_turned c.loop-core.core-index (map core c.args.cores.now) (map core c.loop-core.cores) (map_end core c.loop-core.cores c.loop-core.core-index (omega arith)) c.loop-core.invariant
