use Rattle.std.proofs.Common.{◌≡◌, ◌∷◌, ◌∙◌, List, ap, sym, rules, subst}
use Rattle.core_machine.specs.Machines.{RingCore, IsMachine}
use Rattle.core_machine.proofs.Agreeing.{of_machine, more_looked}
use Rattle.headline.specs.Shown.{replicas_of_cores}
use Rattle.headline.proofs.Ending.{looked_replicas}
use Rattle.headline.proofs.joined.agree_all.Goals as goal

pub agree-requires : goal.agree-requires
agree-requires c =
    let whole : c.args.cores.now ≡ c.in-Some.first.now ∷ c.in-Some.others.now = search rules in
    (c.requires.0, c.requires.1, c.requires.2, subst (λ (l : List RingCore). IsMachine c.requires.0 c.requires.1 c.requires.2 l) whole c.requires.3)

pub returns-in-Some-clause-concludes : goal.returns-in-Some-clause-concludes
returns-in-Some-clause-concludes c =
    let whole : c.args.cores.now ≡ c.in-Some.first.now ∷ c.in-Some.others.now = search rules in
    of_machine c.args.cores.now c.in-Some.first.now c.in-Some.others.now whole c.agree.ensures.agree

pub returns-in-Some-clause-replicas : goal.returns-in-Some-clause-replicas
returns-in-Some-clause-replicas c =
    let whole : c.args.cores.now ≡ c.in-Some.first.now ∷ c.in-Some.others.now = search rules in
    looked_replicas (c.in-Some.first.now ∷ c.in-Some.others.now) (c.agree.new.first ∷ c.agree.new.others)
    (more_looked c.in-Some.first.now c.agree.new.first c.in-Some.others.now c.agree.new.others c.agree.ensures.first c.agree.ensures.others)
    ∙ ap replicas_of_cores (sym whole)
