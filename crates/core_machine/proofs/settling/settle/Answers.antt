use Rattle.std.proofs.Common.{◌∙◌, map}
use Rattle.core_machine.proofs.Rounding.{kept_same, all_looked, all_keep_along}
use Rattle.core_machine.proofs.Ending.{one_table, settling_machine, settling_first, settling_falls, settling_more, takes_none, takes_some, none_left}
use Rattle.core_machine.proofs.settling.settle.Goals as goal

pub returns-then-at_rest-clause-ends : goal.returns-then-at_rest-clause-ends
returns-then-at_rest-clause-ends g c = let core = g.T.Member.core in
    let m = c.requires.machine in
    let rest = c.at_rest.ensures.rests.0 c.if-at_rest.true in
    (rest, c.at_rest.ensures.decided c.if-at_rest.true, one_table m.0 m.1 m.2 (map core c.look_at_machine.new.cores) (c.look_at_machine.ensures.concludes m.0 m.1 m.2 m.3) rest)

pub returns-then-at_rest-clause-machine : goal.returns-then-at_rest-clause-machine
returns-then-at_rest-clause-machine g c = let core = g.T.Member.core in kept_same (map core c.args.cores.now) (map core c.look_at_machine.new.cores) c.look_at_machine.ensures.looked.all (all_looked (map core c.args.cores.now) (map core c.look_at_machine.new.cores) c.look_at_machine.ensures.looked)

pub returns-then-at_rest-clause-keeps : goal.returns-then-at_rest-clause-keeps
returns-then-at_rest-clause-keeps g c = let core = g.T.Member.core in all_looked (map core c.args.cores.now) (map core c.look_at_machine.new.cores) c.look_at_machine.ensures.looked

pub returns-then-at_rest-clause-rounds : goal.returns-then-at_rest-clause-rounds
returns-then-at_rest-clause-rounds g c = let core = g.T.Member.core in takes_none (map core c.args.cores.now) (map core c.look_at_machine.new.cores) (record { looked = c.look_at_machine.ensures.looked; exact = c.look_at_machine.ensures.exact; concludes = c.look_at_machine.ensures.concludes })

pub loop-settled-init : goal.loop-settled-init
loop-settled-init g c = let core = g.T.Member.core in settling_first (map core c.args.cores.now) (map core c.look_at_machine.new.cores) (record { looked = c.look_at_machine.ensures.looked; exact = c.look_at_machine.ensures.exact; concludes = c.look_at_machine.ensures.concludes })

pub round-requires : goal.round-requires
round-requires g c = let core = g.T.Member.core in
    let m = c.requires.machine in
    record { machine = (m.0, m.1, m.2, settling_machine m.0 m.1 m.2 (map core c.args.cores.now) (map core c.loop-settled.cores) c.loop-settled.invariant m.3) }

pub returns-in-Some-clause-machine : goal.returns-in-Some-clause-machine
returns-in-Some-clause-machine g c = let core = g.T.Member.core in
    kept_same (map core c.args.cores.now) (map core c.round.new.cores) (c.round.ensures.machine.all ∙ c.loop-settled.invariant.long) (all_keep_along (map core c.args.cores.now) (map core c.loop-settled.cores) (map core c.round.new.cores) c.loop-settled.invariant.long c.loop-settled.invariant.keeps c.round.ensures.keeps)

pub returns-in-Some-clause-keeps : goal.returns-in-Some-clause-keeps
returns-in-Some-clause-keeps g c = let core = g.T.Member.core in all_keep_along (map core c.args.cores.now) (map core c.loop-settled.cores) (map core c.round.new.cores) c.loop-settled.invariant.long c.loop-settled.invariant.keeps c.round.ensures.keeps

pub returns-in-Some-clause-rounds : goal.returns-in-Some-clause-rounds
returns-in-Some-clause-rounds g c = let core = g.T.Member.core in takes_some c.in-Some.settled (map core c.args.cores.now) (map core c.loop-settled.cores) (map core c.round.new.cores) c.loop-settled.invariant c.in-Some.ensures.ends.0 c.round.ensures.keeps

pub returns-in-Some-clause-concludes : goal.returns-in-Some-clause-concludes
returns-in-Some-clause-concludes g c = let core = g.T.Member.core in λ limits budget budgets machine. c.round.ensures.concludes limits budget budgets (settling_machine limits budget budgets (map core c.args.cores.now) (map core c.loop-settled.cores) c.loop-settled.invariant machine)

pub loop-settled-smaller : goal.loop-settled-smaller
loop-settled-smaller g c = let core = g.T.Member.core in
    let m = c.requires.machine in
    let left = none_left c.round.result (map core c.loop-settled.cores) (map core c.round.new.cores) c.in_default.is c.round.ensures.goes_on in
    settling_falls m.0 m.1 m.2 (map core c.args.cores.now) (map core c.loop-settled.cores) (map core c.round.new.cores) m.3 c.loop-settled.invariant left.0 left.1

pub loop-settled-preserved : goal.loop-settled-preserved
loop-settled-preserved g c = let core = g.T.Member.core in
    let m = c.requires.machine in
    let left = none_left c.round.result (map core c.loop-settled.cores) (map core c.round.new.cores) c.in_default.is c.round.ensures.goes_on in
    settling_more m.0 m.1 m.2 (map core c.args.cores.now) (map core c.loop-settled.cores) (map core c.round.new.cores) m.3 c.loop-settled.invariant left.0 left.1
