use Rattle.std.proofs.Common.{◌∷◌, List, map, subst, sym, rules}
use Rattle.core_machine.specs.Machines.{RingCore, IsMachine}
use Rattle.core_machine.specs.Looking.{AreLookedAt}
use Rattle.core_machine.proofs.Agreeing.{all_joined, all_own, agrees, more_looked}
use Rattle.core_machine.proofs.Along.{concluded}
use Rattle.core_machine.proofs.Listing.{whole_of}
use Rattle.core_machine.proofs.looking.look_at_machine.Goals as goal

pub look_at_all-requires-clause-joined : goal.look_at_all-requires-clause-joined
look_at_all-requires-clause-joined g c =
    let core = g.T.Member.core in let m = c.requires in
    let whole = whole_of core c.args.cores.now c.in-Some.first.now c.in-Some.others.now (search rules) in
    all_joined m.0 m.1 m.2 (core c.in-Some.first.now) (map core c.in-Some.others.now) (subst (λ (l : List RingCore). IsMachine m.0 m.1 m.2 l) whole m.3)

pub look_at_all-requires-clause-own : goal.look_at_all-requires-clause-own
look_at_all-requires-clause-own g c =
    let core = g.T.Member.core in let m = c.requires in
    let whole = whole_of core c.args.cores.now c.in-Some.first.now c.in-Some.others.now (search rules) in
    all_own m.0 m.1 m.2 (core c.in-Some.first.now) (map core c.in-Some.others.now) (subst (λ (l : List RingCore). IsMachine m.0 m.1 m.2 l) whole m.3)

pub returns-in-Some-clause-looked : goal.returns-in-Some-clause-looked
returns-in-Some-clause-looked g c =
    let core = g.T.Member.core in
    let whole = whole_of core c.args.cores.now c.in-Some.first.now c.in-Some.others.now (search rules) in
    subst (λ (l : List RingCore). AreLookedAt l (core c.look_at_all.new.first ∷ map core c.look_at_all.new.others)) (sym whole)
    (more_looked (core c.in-Some.first.now) (core c.look_at_all.new.first) (map core c.in-Some.others.now) (map core c.look_at_all.new.others) c.look_at_all.ensures.first c.look_at_all.ensures.others)

pub returns-in-Some-clause-concludes : goal.returns-in-Some-clause-concludes
returns-in-Some-clause-concludes g c = λ limits budget budgets machine.
    let core = g.T.Member.core in let first = core c.in-Some.first.now in let first' = core c.look_at_all.new.first in let others = map core c.in-Some.others.now in
    let whole = whole_of core c.args.cores.now c.in-Some.first.now c.in-Some.others.now (search rules) in
    concluded limits budget budgets (map core c.args.cores.now) first first' others (map core c.look_at_all.new.others) whole c.look_at_all.ensures.first c.look_at_all.ensures.others
    (agrees limits budget budgets first first' others (subst (λ (l : List RingCore). IsMachine limits budget budgets l) whole machine) c.look_at_all.ensures.first c.stands_alone.ensures.stands c.stands_alone.ensures.stopped c.look_at_all.ensures.each)
