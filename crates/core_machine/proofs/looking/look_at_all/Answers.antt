use Rattle.std.proofs.Common.{◌+◌, List, map, subst, sym, arith}
use Rattle.std.proofs.lemmas.List.{map-set}
use Rattle.core_machine.specs.Machines.{RingCore}
use Rattle.core_machine.proofs.Listing.{indexed_core, map_end}
use Rattle.core_machine.proofs.Seeing.{Looking, looking_none, next_joined, looking_more, all_looked_at}
use Rattle.core_machine.proofs.looking.look_at_all.Goals as goal

pub look_at-requires : goal.look_at-requires
look_at-requires g c =
    let core = g.T.Member.core in let now = c.loop-other.others in let k = c.loop-other.other-index in
    let at = indexed_core core now k c.other-item.result (omega arith) in
    next_joined k (core c.args.first.now) (core c.loop-other.first) (map core c.args.others.now) (map core now) _ c.loop-other.invariant at c.requires.joined

pub loop-other-init : goal.loop-other-init
loop-other-init g c = looking_none _ _

pub loop-other-preserved : goal.loop-other-preserved
loop-other-preserved g c =
    let core = g.T.Member.core in let now = c.loop-other.others in let k = c.loop-other.other-index in
    let at = indexed_core core now k c.other-item.result (omega arith) in
    subst (λ (l : List RingCore). Looking (k + 1) (core c.args.first.now) (core c.look_at.new.first) (map core c.args.others.now) l) (sym (map-set core now k c.look_at.new.other))
    (looking_more k (core c.args.first.now) (core c.loop-other.first) (map core c.args.others.now) (map core now) _ c.loop-other.invariant at c.requires.own (core c.look_at.new.first) (core c.look_at.new.other)
    c.look_at.ensures.first c.look_at.ensures.other c.look_at.ensures.took c.look_at.ensures.exact c.look_at.ensures.only)

pub returns-clause-first : goal.returns-clause-first
returns-clause-first g c = c.loop-other.invariant.core0

pub returns-clause-others : goal.returns-clause-others
returns-clause-others g c =
    let core = g.T.Member.core in
    (all_looked_at c.loop-other.other-index (core c.args.first.now) (core c.loop-other.first) (map core c.args.others.now) (map core c.loop-other.others) (map_end core c.loop-other.others c.loop-other.other-index (omega arith)) c.loop-other.invariant).others

pub returns-clause-each : goal.returns-clause-each
returns-clause-each g c =
    let core = g.T.Member.core in
    (all_looked_at c.loop-other.other-index (core c.args.first.now) (core c.loop-other.first) (map core c.args.others.now) (map core c.loop-other.others) (map_end core c.loop-other.others c.loop-other.other-index (omega arith)) c.loop-other.invariant).each

pub returns-clause-exact : goal.returns-clause-exact
returns-clause-exact g c =
    let core = g.T.Member.core in
    (all_looked_at c.loop-other.other-index (core c.args.first.now) (core c.loop-other.first) (map core c.args.others.now) (map core c.loop-other.others) (map_end core c.loop-other.others c.loop-other.other-index (omega arith)) c.loop-other.invariant).exact

pub returns-clause-only : goal.returns-clause-only
returns-clause-only g c =
    let core = g.T.Member.core in
    (all_looked_at c.loop-other.other-index (core c.args.first.now) (core c.loop-other.first) (map core c.args.others.now) (map core c.loop-other.others) (map_end core c.loop-other.others c.loop-other.other-index (omega arith)) c.loop-other.invariant).only
