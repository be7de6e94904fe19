use Rattle.std.proofs.Common.{◌∙◌, map}
use Rattle.core_machine.proofs.Rounding.{kept_same}
use Rattle.core_machine.proofs.Ending.{turned_machine, round_kept, none_stops, goes_on, ends_so}
use Rattle.core_machine.proofs.settling.round.Goals as goal

pub look_at_machine-requires : goal.look_at_machine-requires
look_at_machine-requires g c = let core = g.T.Member.core in
    let m = c.requires.machine in
    (m.0, m.1, m.2, turned_machine m.0 m.1 m.2 (map core c.args.cores.now) (map core c.turn_each-halted.new.cores) c.turn_each-halted.ensures.all c.turn_each-halted.ensures.keeps m.3)

pub ended-requires : goal.ended-requires
ended-requires g c = let core = g.T.Member.core in
    let m = c.requires.machine in
    none_stops g.T.Member.lists m.0 m.1 m.2 c.turn_each-halted.result (map core c.turn_each-halted.new.cores) (map core c.look_at_machine.new.cores) c.turn_each-halted.ensures.some c.look_at_machine.ensures.looked (c.look_at_machine.ensures.concludes m.0 m.1 m.2 (turned_machine m.0 m.1 m.2 (map core c.args.cores.now) (map core c.turn_each-halted.new.cores) c.turn_each-halted.ensures.all c.turn_each-halted.ensures.keeps m.3))

pub returns-clause-machine : goal.returns-clause-machine
returns-clause-machine g c = let core = g.T.Member.core in
    kept_same (map core c.args.cores.now) (map core c.look_at_machine.new.cores) (c.look_at_machine.ensures.looked.all ∙ c.turn_each-halted.ensures.all) (round_kept (map core c.args.cores.now) (map core c.turn_each-halted.new.cores) (map core c.look_at_machine.new.cores) c.turn_each-halted.ensures.all c.turn_each-halted.ensures.keeps c.look_at_machine.ensures.looked)

pub returns-clause-keeps : goal.returns-clause-keeps
returns-clause-keeps g c = let core = g.T.Member.core in round_kept (map core c.args.cores.now) (map core c.turn_each-halted.new.cores) (map core c.look_at_machine.new.cores) c.turn_each-halted.ensures.all c.turn_each-halted.ensures.keeps c.look_at_machine.ensures.looked

pub returns-clause-goes_on : goal.returns-clause-goes_on
returns-clause-goes_on g c = let core = g.T.Member.core in goes_on c.ended.result c.turn_each-halted.result (map core c.args.cores.now) (map core c.turn_each-halted.new.cores) (map core c.look_at_machine.new.cores) c.turn_each-halted.ensures.none
    (record { looked = c.look_at_machine.ensures.looked; exact = c.look_at_machine.ensures.exact; concludes = c.look_at_machine.ensures.concludes }) c.ended.ensures.none

pub returns-clause-ends : goal.returns-clause-ends
returns-clause-ends g c = let core = g.T.Member.core in
    let m = c.requires.machine in
    ends_so g.T.Member.lists m.0 m.1 m.2 c.ended.result c.turn_each-halted.result (map core c.args.cores.now) (map core c.turn_each-halted.new.cores) (map core c.look_at_machine.new.cores) c.turn_each-halted.ensures.none c.turn_each-halted.ensures.some
    (record { looked = c.look_at_machine.ensures.looked; exact = c.look_at_machine.ensures.exact; concludes = c.look_at_machine.ensures.concludes })
    (c.look_at_machine.ensures.concludes m.0 m.1 m.2 (turned_machine m.0 m.1 m.2 (map core c.args.cores.now) (map core c.turn_each-halted.new.cores) c.turn_each-halted.ensures.all c.turn_each-halted.ensures.keeps m.3)) c.ended.ensures.some

pub returns-clause-concludes : goal.returns-clause-concludes
returns-clause-concludes g c = let core = g.T.Member.core in λ limits budget budgets machine. c.look_at_machine.ensures.concludes limits budget budgets (turned_machine limits budget budgets (map core c.args.cores.now) (map core c.turn_each-halted.new.cores) c.turn_each-halted.ensures.all c.turn_each-halted.ensures.keeps machine)
