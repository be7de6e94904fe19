use Rattle.std.proofs.Common.{◌≡◌, ap, ◌∙◌, subst}
use denote.Param.Send.{sendable}
use Rattle.core_threads.specs.Runs.{ThreadRan}
use Rattle.core_machine.proofs.Crossing.{with_list_send}
use Rattle.core_threads.proofs.Crossing.{ran_send}
use Rattle.core_threads.proofs.flags.Flags.TheSendSync as flags
use Rattle.core_threads.proofs.turning.Bounds.TheSendSync as bounds
use Rattle.core_threads.proofs.threads.+fn-run_in_threads-scope+run_in_threads.Goals as goal

pub scope-spawn_with-requires-send-F : goal.scope-spawn_with-requires-send-F
scope-spawn_with-requires-send-F g t c κs within =
    let shared = c.requires in
    search (sendable, with_list_send, flags.the_sync, bounds.the_send) depth 10

pub scope-spawn_with-requires-send-T : goal.scope-spawn_with-requires-send-T
scope-spawn_with-requires-send-T g t c κs within = search (sendable, ran_send) depth 10

pub scope-returns : goal.scope-returns
scope-returns g t c =
    let same : c.in-Ok.child.promise.0.value ≡ c.captures.core = ap (λ p. p.0.value) c.in-Ok.ensures.ok ∙ c.of.ensures in
    let ran = subst (λ x. ThreadRan x c.join.result.core c.join.result.halted) same c.join.ensures in
    record {
      cores = c.join_last.ensures.cores c.captures.cores.items c.captures.core c.run_in_threads-rest.ensures.cores ran;
      outlets = c.join_last.ensures.outlets c.captures.outlets.items c.run_in_threads-rest.ensures.outlets;
    }
