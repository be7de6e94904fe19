use Rattle.std.proofs.Common.{◌≡◌, List, map, sym, ap, ◌∙◌, subst}
use Rattle.core_threads.specs.declared.feeding.Outlet.{Outlet}
use Rattle.core_threads.specs.declared.threads.Ran.{Ran}
use Rattle.core_threads.specs.Leaving.{AllLeft}
use Rattle.core_threads.specs.Searching.{AreInPlace}
use Rattle.core_threads.proofs.Looked.{written, looked_from, running_back}
use Rattle.core_threads.proofs.Finishes.{in_place, left_machine, finishes, halt_each}
use Rattle.core_threads.proofs.machine.finish.Goals as goal

pub why_halted-halted-requires : goal.why_halted-halted-requires
why_halted-halted-requires c =
    let new = c.leave_all.new.ran in
    let left = subst (λ (l : List Ran). AllLeft l new c.args.joined.outlets.items c.in_ok-left.left.items) c.deref_mut.ensures.value
    (subst (λ (l : List Outlet). AllLeft c.deref_mut.result.now new l c.in_ok-left.left.items) c.deref_mut-2.ensures.value c.in_ok-left.ensures) in
    let is = c.deref.ensures.value ∙ written _ _ _ (sym c.deref_mut.ensures.len ∙ sym c.in_ok-left.ensures.same.all) in
    subst (λ (l : List Ran). AreInPlace l) (sym is) (in_place _ _ _ c.requires left.same)

pub look_at_machine-requires : goal.look_at_machine-requires
look_at_machine-requires c =
    let new = c.leave_all.new.ran in
    let left = subst (λ (l : List Ran). AllLeft l new c.args.joined.outlets.items c.in_ok-left.left.items) c.deref_mut.ensures.value
    (subst (λ (l : List Outlet). AllLeft c.deref_mut.result.now new l c.in_ok-left.left.items) c.deref_mut-2.ensures.value c.in_ok-left.ensures) in
    let ran = written _ _ _ (sym c.deref_mut.ensures.len ∙ sym c.in_ok-left.ensures.same.all) in
    let is : c.as_mut_slice.result.now ≡ map (λ (r : Ran). r.core) new = c.as_mut_slice.ensures.value ∙ c.in_ok-cores.ensures ∙ ap (map (λ r. r.core)) ran in
    left_machine _ new _ c.requires left.same c.as_mut_slice.result.now is

pub returns-clause-finishes : goal.returns-clause-finishes
returns-clause-finishes c =
    let new = c.leave_all.new.ran in
    let left = subst (λ (l : List Ran). AllLeft l new c.args.joined.outlets.items c.in_ok-left.left.items) c.deref_mut.ensures.value
    (subst (λ (l : List Outlet). AllLeft c.deref_mut.result.now new l c.in_ok-left.left.items) c.deref_mut-2.ensures.value c.in_ok-left.ensures) in
    let long = sym c.deref_mut.ensures.len ∙ sym c.in_ok-left.ensures.same.all in
    let is = c.deref.ensures.value ∙ written _ _ _ long in
    let why = rw (is, c.deref-2.ensures.value) at c.why_halted-halted.ensures in
    let cores = c.in_ok-cores.ensures ∙ ap (map (λ r. r.core)) (written _ _ _ long) in
    let value = c.as_mut_slice.ensures.value in
    let look = c.look_at_machine.ensures in
    let machine = left_machine _ new _ c.requires left.same c.as_mut_slice.result.now (value ∙ cores) in
    finishes _ new _ c.requires left.same _ _ _ left why
    (looked_from c.in_ok-cores.cores.len c.in_ok-cores.cores.items c.as_mut_slice.result.now c.look_at_machine.new.cores value c.in_ok-cores.cores.ok.0 look.looked (map (λ (r : Ran). r.core) new) cores)
    (running_back c.in_ok-cores.cores.len c.in_ok-cores.cores.items c.as_mut_slice.result.now c.look_at_machine.new.cores value c.in_ok-cores.cores.ok.0 look.looked machine.0 machine.1 machine.2 (look.concludes machine.0 machine.1 machine.2 machine.3))

pub returns-clause-halts : goal.returns-clause-halts
returns-clause-halts c =
    let new = c.leave_all.new.ran in
    let left = subst (λ (l : List Ran). AllLeft l new c.args.joined.outlets.items c.in_ok-left.left.items) c.deref_mut.ensures.value
    (subst (λ (l : List Outlet). AllLeft c.deref_mut.result.now new l c.in_ok-left.left.items) c.deref_mut-2.ensures.value c.in_ok-left.ensures) in
    let long = sym c.deref_mut.ensures.len ∙ sym c.in_ok-left.ensures.same.all in
    let is = c.deref.ensures.value ∙ written _ _ _ long in
    let why = rw (is, c.deref-2.ensures.value) at c.why_halted-halted.ensures in
    let ran = written _ _ _ long in
    let cores = c.in_ok-cores.ensures ∙ ap (map (λ r. r.core)) ran in
    halt_each _ new _ c.requires left.same _ _ _ _ why
    (looked_from c.in_ok-cores.cores.len c.in_ok-cores.cores.items c.as_mut_slice.result.now c.look_at_machine.new.cores c.as_mut_slice.ensures.value c.in_ok-cores.cores.ok.0 c.look_at_machine.ensures.looked (map (λ (r : Ran). r.core) new) cores)
    (c.in_ok-halts.ensures ∙ ap (map (λ r. r.halted)) (c.deref-3.ensures.value ∙ ran))
