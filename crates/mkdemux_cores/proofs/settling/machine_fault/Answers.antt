use Rattle.std.proofs.Common.{◌≡◌, ◌∷◌, ◌∙◌, Option, List, length, refl, sym, ap, rules}
use Rattle.core_machine.specs.Machines.{RingCore}
use Rattle.mkdemux_cores.specs.declared.handle.CoreHandle.{CoreHandle}
use Rattle.mkdemux_cores.specs.Booting.{cores_of}
use Rattle.mkdemux_cores.proofs.Handles.{closed_first}
use Rattle.mkdemux_cores.proofs.Found.{found_other}
use Rattle.mkdemux_cores.proofs.settling.machine_fault.Goals as goal

pub returns-in_default-name_of-clause-closed : goal.returns-in_default-name_of-clause-closed
returns-in_default-name_of-clause-closed c = λ _.
    let whole : c.args.cores.now ≡ c.in-Some.first.now ∷ c.in-Some._rest.now = search rules in
    closed_first c.args.cores.now c.in-Some._rest.now c.in-Some.first.now whole (search rules)

pub returns-clause-same : goal.returns-clause-same
returns-clause-same c =
    let whole : c.args.cores.now ≡ c.in-Some.first.now ∷ c.in-Some._rest.now = search rules in
    c.fault_of.ensures.same ∙ ap (λ (o : Option RingCore). o ∷ cores_of c.in-Some._rest.now) c.name_of.ensures.same ∙ sym (ap (λ (l : List CoreHandle). cores_of l) whole)

pub returns-clause-not_machine : goal.returns-clause-not_machine
returns-clause-not_machine c =
    let whole : c.args.cores.now ≡ c.in-Some.first.now ∷ c.in-Some._rest.now = search rules in
    let same = ap (λ (o : Option RingCore). o ∷ cores_of c.in-Some._rest.now) c.name_of.ensures.same ∙ sym (ap (λ (l : List CoreHandle). cores_of l) whole) in
    let named = c.in-Some-name_of.ensures.name in
    found_other c.args.cores.now c.in-Some._rest.now (c.name_of.new.core ∷ c.in-Some._rest.now) c.in-Some.first.now whole same c.in-Some-name_of.name (length c.args.cores.now) refl c.fault_of.result named.0 named.1 named.2
    c.fault_of.ensures.some
