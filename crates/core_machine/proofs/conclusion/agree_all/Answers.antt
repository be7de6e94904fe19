use Rattle.std.proofs.Common.{◌≡◌, ◌∷◌, List, length, rules, subst, sym}
use Rattle.core_machine.specs.Machines.{RingCore, IsMachine}
use Rattle.core_machine.specs.Looking.{AreLookedAt}
use Rattle.core_machine.proofs.Agreeing.{of_machine, more_looked, some_cores}
use Rattle.core_machine.proofs.Along.{concluded}
use Rattle.core_machine.proofs.conclusion.agree_all.Goals as goal

pub agree-requires : goal.agree-requires
agree-requires c =
    let whole : c.args.cores.now ≡ c.in-Some.first.now ∷ c.in-Some.others.now = search rules in
    (c.requires.0, c.requires.1, c.requires.2, subst (λ (l : List RingCore). IsMachine c.requires.0 c.requires.1 c.requires.2 l) whole c.requires.3)

pub returns-in-None-clause-exact : goal.returns-in-None-clause-exact
returns-in-None-clause-exact c =
    let none : length c.args.cores.now ≡ 0 = search rules in
    absurd (some_cores c.requires.0 c.requires.1 c.requires.2 c.args.cores.now c.requires.3 none)

pub returns-in-Some-clause-looked : goal.returns-in-Some-clause-looked
returns-in-Some-clause-looked c =
    let whole : c.args.cores.now ≡ c.in-Some.first.now ∷ c.in-Some.others.now = search rules in
    subst (λ (l : List RingCore). AreLookedAt l (c.agree.new.first ∷ c.agree.new.others)) (sym whole) (more_looked c.in-Some.first.now c.agree.new.first c.in-Some.others.now c.agree.new.others c.agree.ensures.first c.agree.ensures.others)

pub returns-in-Some-clause-agree : goal.returns-in-Some-clause-agree
returns-in-Some-clause-agree c =
    let whole : c.args.cores.now ≡ c.in-Some.first.now ∷ c.in-Some.others.now = search rules in
    of_machine c.args.cores.now c.in-Some.first.now c.in-Some.others.now whole c.agree.ensures.agree

pub returns-in-Some-clause-concludes : goal.returns-in-Some-clause-concludes
returns-in-Some-clause-concludes c = λ limits budget budgets machine.
    let whole : c.args.cores.now ≡ c.in-Some.first.now ∷ c.in-Some.others.now = search rules in
    concluded limits budget budgets c.args.cores.now c.in-Some.first.now c.agree.new.first c.in-Some.others.now c.agree.new.others whole c.agree.ensures.first c.agree.ensures.others
    (c.agree.ensures.agree limits budget budgets (subst (λ (l : List RingCore). IsMachine limits budget budgets l) whole machine))

pub returns-in-None-clause-concludes : goal.returns-in-None-clause-concludes
returns-in-None-clause-concludes c =
    let none : length c.args.cores.now ≡ 0 = search rules in
    absurd (some_cores c.requires.0 c.requires.1 c.requires.2 c.args.cores.now c.requires.3 none)
