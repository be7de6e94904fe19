use Rattle.std.proofs.Common.{◌≡◌, ◌∷◌, [], ℕ, Some, slice_get, slice_set, slice_index_or, refl, sym, ap, ◌∙◌, subst}
use Rattle.core_machine.specs.Machines.{RingCore}
use Rattle.core_machine.proofs.Lists.{get_indexed}
use Rattle.core_machine.specs.Driving.{AreDriven, IsDone}
use Rattle.core_machine.specs.Conclusions.{AreRunning}
use Rattle.core_machine.specs.Driving.{IsRunning}
use Rattle.core_machine.proofs.Steps.{driven_one}
use Rattle.core_machine.proofs.Running.{step_running}
use Rattle.core_machine.proofs.driving.do_step.Goals as goal

pub returns-clause-driven : goal.returns-clause-driven
returns-clause-driven c =
    let cores = c.args.cores.now in
    let k = c.args.step.core in
    let core = slice_index_or cores c.from.result c.index-cores-from.result in
    let is : c.index-cores-from.result ≡ core = c.index-cores-from.is in
    let from : c.from.result ≡ k = c.from.ensures in
    let there' : slice_get cores k ≡ Some c.index-cores-from.result = get_indexed cores k c.index-cores-from.result (subst (λ (n : ℕ). c.index-cores-from.result ≡ slice_index_or cores n c.index-cores-from.result) from is) c.requires.step.0 in
    let there : slice_get cores k ≡ Some core = there' ∙ ap (λ (x : RingCore). Some x) is in
    subst (λ (n : ℕ). AreDriven (c.args.step ∷ []) (c.do_task.result ∷ []) cores (slice_set cores n c.do_task.new.core)) (sym from)
    (driven_one c.args.step c.do_task.result cores core c.do_task.new.core there (c.requires.place k core there) c.do_task.ensures.answered c.do_task.ensures.drives)

pub returns-clause-done : goal.returns-clause-done
returns-clause-done c =
    let cores = c.args.cores.now in
    let k = c.args.step.core in
    let core = slice_index_or cores c.from.result c.index-cores-from.result in
    let is : c.index-cores-from.result ≡ core = c.index-cores-from.is in
    let from : c.from.result ≡ k = c.from.ensures in
    let there' : slice_get cores k ≡ Some c.index-cores-from.result = get_indexed cores k c.index-cores-from.result (subst (λ (n : ℕ). c.index-cores-from.result ≡ slice_index_or cores n c.index-cores-from.result) from is) c.requires.step.0 in
    let there : slice_get cores k ≡ Some core = there' ∙ ap (λ (x : RingCore). Some x) is in
    subst (λ (n : ℕ). IsDone c.args.step c.do_task.result cores (slice_set cores n c.do_task.new.core)) (sym from)
    (record { core = core; becomes = c.do_task.new.core; there = there; new_is = refl; right = c.do_task.ensures.right })

pub returns-clause-running : goal.returns-clause-running
returns-clause-running c =
    let cores = c.args.cores.now in
    let k = c.args.step.core in
    let core = slice_index_or cores c.from.result c.index-cores-from.result in
    let is : c.index-cores-from.result ≡ core = c.index-cores-from.is in
    let from : c.from.result ≡ k = c.from.ensures in
    let there' : slice_get cores k ≡ Some c.index-cores-from.result = get_indexed cores k c.index-cores-from.result (subst (λ (n : ℕ). c.index-cores-from.result ≡ slice_index_or cores n c.index-cores-from.result) from is) c.requires.step.0 in
    let there : slice_get cores k ≡ Some core = there' ∙ ap (λ (x : RingCore). Some x) is in
    subst (λ (n : ℕ). AreRunning (slice_set cores n c.do_task.new.core) → AreRunning cores × IsRunning c.do_task.result) (sym from)
    (step_running cores k core c.do_task.new.core c.do_task.result there c.do_task.ensures.running)
