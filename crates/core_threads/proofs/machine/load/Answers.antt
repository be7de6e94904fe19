use Rattle.std.proofs.Common.{◌≡◌, List, length, ap, subst, arith}
use Rattle.rx_queue.specs.declared.port.Port.{Port}
use Rattle.core_threads.specs.Booted.{MachineState}
use Rattle.core_threads.specs.Loading.{AreLoaded}
use Rattle.core_threads.proofs.Loads.{loaded}
use Rattle.core_threads.proofs.machine.load.Goals as goal

pub returns-clause-outlets : goal.returns-clause-outlets
returns-clause-outlets c =
    let inside = c.machine.inside in
    let lanes = c.in_ok-lanes.lanes.items in
    let outlets = c.in_ok-outlets.outlets.items in
    let ports : inside.ports.items ≡ c.args.machine.ports = ap (λ (m : MachineState). m.ports) c.machine.view_is in
    let long : length lanes ≡ length inside.ports.items = omega (arith, c.in_ok-lanes.ensures.count, c.len.ensures, inside.cores.ok.0, c.machine.invariant.booted.all) in
    subst (λ (l : List Port). AreLoaded l c.args.jobs.items outlets) ports (loaded inside.ports.items lanes c.args.jobs.items outlets long c.in_ok-lanes.ensures.lanes c.in_ok-outlets.ensures)
