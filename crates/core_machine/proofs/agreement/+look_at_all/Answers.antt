use Rattle.std.proofs.Common.{◌≡◌, List, ◌∷◌, length, sym, ap, subst, arith, rules}
use Rattle.core_machine.specs.Machines.{RingCore}
use Rattle.core_machine.specs.Looking.{AreLookedAt, EachTookInOrder, HaveOwnLinks, LooksOnlyAt}
use Rattle.core_machine.proofs.Joined.{looked_along}
use Rattle.core_machine.proofs.Agreeing.{first_joined, rest_joined_of, more_looked, more_took, more_exact, more_only, rest_own}
use Rattle.core_machine.proofs.agreement.+look_at_all.Goals as goal

pub look_at-requires : goal.look_at-requires
look_at-requires t c =
    let whole : c.args.others.now ≡ c.in-Some.other.now ∷ c.in-Some.rest.now = search rules in
    first_joined c.args.first.now c.args.others.now c.in-Some.other.now c.in-Some.rest.now whole c.requires.joined

pub look_at_all-requires : goal.look_at_all-requires
look_at_all-requires t c =
    let whole : c.args.others.now ≡ c.in-Some.other.now ∷ c.in-Some.rest.now = search rules in (
      omega (arith, c.decreases, ap (λ (l : List RingCore). length l) whole),
      (
        rest_joined_of c.args.first.now c.look_at.new.first c.args.others.now c.in-Some.other.now c.in-Some.rest.now whole c.look_at.ensures.first c.requires.joined,
        rest_own c.in-Some.other.now c.in-Some.rest.now (subst HaveOwnLinks whole c.requires.own),
      ),
    )

pub returns-in-Some-clause-first : goal.returns-in-Some-clause-first
returns-in-Some-clause-first t c = looked_along c.args.first.now c.look_at.new.first c.look_at_all.new.first c.look_at.ensures.first c.look_at_all.ensures.first

pub returns-in-Some-clause-others : goal.returns-in-Some-clause-others
returns-in-Some-clause-others t c =
    let whole : c.args.others.now ≡ c.in-Some.other.now ∷ c.in-Some.rest.now = search rules in
    subst (λ (l : List RingCore). AreLookedAt l (c.look_at.new.other ∷ c.look_at_all.new.others)) (sym whole)
    (more_looked c.in-Some.other.now c.look_at.new.other c.in-Some.rest.now c.look_at_all.new.others c.look_at.ensures.other c.look_at_all.ensures.others)

pub returns-in-Some-clause-each : goal.returns-in-Some-clause-each
returns-in-Some-clause-each t c =
    let whole : c.args.others.now ≡ c.in-Some.other.now ∷ c.in-Some.rest.now = search rules in
    subst (λ (l : List RingCore). EachTookInOrder c.args.first.now l) (sym whole)
    (more_took c.args.first.now c.look_at.new.first c.in-Some.other.now c.in-Some.rest.now c.look_at.ensures.first c.look_at.ensures.took c.look_at_all.ensures.each)

pub returns-in-Some-clause-exact : goal.returns-in-Some-clause-exact
returns-in-Some-clause-exact t c =
    let whole : c.args.others.now ≡ c.in-Some.other.now ∷ c.in-Some.rest.now = search rules in
    more_exact c.look_at.new.first c.look_at_all.new.first c.in-Some.other.now c.look_at.new.other c.in-Some.rest.now c.look_at_all.new.others (subst HaveOwnLinks whole c.requires.own)
    c.look_at.ensures.other c.look_at.ensures.exact c.look_at_all.ensures.first c.look_at_all.ensures.only c.look_at_all.ensures.exact

pub returns-in-Some-clause-only : goal.returns-in-Some-clause-only
returns-in-Some-clause-only t c =
    let whole : c.args.others.now ≡ c.in-Some.other.now ∷ c.in-Some.rest.now = search rules in
    subst (λ (l : List RingCore). LooksOnlyAt l c.args.first.now c.look_at_all.new.first) (sym whole)
    (more_only c.args.first.now c.look_at.new.first c.look_at_all.new.first c.in-Some.other.now c.in-Some.rest.now c.look_at.ensures.only c.look_at_all.ensures.only)
