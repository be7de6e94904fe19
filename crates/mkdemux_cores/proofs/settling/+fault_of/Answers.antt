use Rattle.std.proofs.Common.{◌≡◌, ◌∷◌, inl, inr, refl, rules}
use Rattle.mkdemux_cores.proofs.Handles.{closed_first, other_first, none_more, some_more}
use Rattle.mkdemux_cores.proofs.settling.+fault_of.Goals as goal

pub returns-in_default-take-clause-some : goal.returns-in_default-take-clause-some
returns-in_default-take-clause-some t c =
    let whole : c.args.cores.now ≡ c.in-Some.core.now ∷ c.in-Some.rest.now = search rules in
    inl (refl, closed_first c.args.cores.now c.in-Some.rest.now c.in-Some.core.now whole (search rules))

pub returns-then-not-fits-clause-some : goal.returns-then-not-fits-clause-some
returns-then-not-fits-clause-some t c =
    let whole : c.args.cores.now ≡ c.in-Some.core.now ∷ c.in-Some.rest.now = search rules in
    inr (refl, other_first c.args.cores.now c.in-Some.rest.now c.in-Some.core.now whole c.args.name c.args.place c.args.count c.in-Some-take.open.value (search rules) (search rules))

pub returns-clause-none : goal.returns-clause-none
returns-clause-none t c =
    let whole : c.args.cores.now ≡ c.in-Some.core.now ∷ c.in-Some.rest.now = search rules in
    none_more c.args.cores.now c.in-Some.rest.now c.in-Some.core.now whole c.args.name c.args.place c.args.count c.fault_of.result c.in-Some-take.open.value (search rules) (search rules) c.fault_of.ensures.none

pub returns-clause-some : goal.returns-clause-some
returns-clause-some t c =
    let whole : c.args.cores.now ≡ c.in-Some.core.now ∷ c.in-Some.rest.now = search rules in
    some_more c.args.cores.now c.in-Some.rest.now c.in-Some.core.now whole c.args.name c.args.place c.args.count c.fault_of.result c.fault_of.ensures.some
