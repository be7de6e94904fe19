use Rattle.std.proofs.Common.{◌≡◌, ℕ, refl, sym, ap, ◌∙◌, subst}
use Rattle.core_machine.specs.Machines.{RingCore}
use Rattle.mkdemux_cores.specs.declared.turned.Turned.{Turned}
use Rattle.mkdemux_cores.specs.Turns.{HasTurned}
use Rattle.mkdemux_cores.proofs.Linked.{linked}
use Rattle.mkdemux_cores.proofs.Telling.{Says, more_for, turn_answer, turn_report, has_turned}
use Rattle.mkdemux_cores.proofs.turning.turn_core.Goals.{in-Did, in-Idle, in-Stopped, in-Spent, in-NoMemory}
use Rattle.mkdemux_cores.proofs.turning.turn_core.Goals as goal

pub returns-clause-turned : goal.returns-clause-turned
returns-clause-turned c =
    let turn = c.turn-turn.result in let old : RingCore = c.args.core.now in let new : RingCore = c.turn-turn.new.self in let e = c.turn-turn.ensures in let number = c.decided-number.result in
    let says : Says turn old new = record {
      core = e.core;
      requests = e.requests;
      decided = c.are_decided.ensures;
      did = e.did;
      decision = e.decision;
      leave = λ s d is. e.leave s d is refl;
      other = e.other;
      stays = e.stays;
      stopped = e.stopped;
      cause = e.cause;
      running = e.running;
      spent = e.spent;
      lacks = e.lacks;
      no_memory = e.no_memory;
      idle_message = e.idle_message;
      idle = e.idle;
      still = e.still;
      moved = e.moved;
      full = e.full;
      dry = e.dry;
    } in
    let answer : c.match-turn.answer ≡ turn_answer turn = elim c.match-turn.branch [
      | in-Did w ↦ w.answer-is ∙ sym (ap turn_answer w.in-Did.is)
      | in-Idle w ↦ w.answer-is ∙ sym (ap turn_answer w.in-Idle.is)
      | in-Stopped w ↦ w.answer-is ∙ sym (ap turn_answer w.in-Stopped.is)
      | in-Spent w ↦ w.answer-is ∙ sym (ap turn_answer w.in-Spent.is)
      | in-NoMemory w ↦ w.answer-is ∙ sym (ap turn_answer w.in-NoMemory.is)
    ] in
    let report : c.match-turn.turned ≡ turn_report number turn = elim c.match-turn.branch [
      | in-Did w ↦ w.turned-is ∙ w.report.ensures ∙ sym (ap (turn_report number) w.in-Did.is)
      | in-Idle w ↦ w.turned-is ∙ sym (ap (turn_report number) w.in-Idle.is)
      | in-Stopped w ↦ w.turned-is ∙ sym (ap (turn_report number) w.in-Stopped.is)
      | in-Spent w ↦ w.turned-is ∙ sym (ap (turn_report number) w.in-Spent.is)
      | in-NoMemory w ↦ w.turned-is ∙ sym (ap (turn_report number) w.in-NoMemory.is)
    ] in
    let woken = c.woken-turned.result in let more = c.more_after-turned.result in let closed = c.closed-closed.result in
    let further : more ≡ more_for (turn_answer turn) = subst (λ (n : ℕ). more ≡ more_for n) answer c.more_after-turned.ensures in
    subst (λ (n : ℕ). HasTurned n (record c.match-turn.turned { woken = woken; more = more; closed = closed }) old new) (sym answer) (subst (λ (t : Turned). HasTurned (turn_answer turn) (record t { woken = woken; more = more; closed = closed }) old new) (sym report)
    (has_turned old new number woken more closed c.decided-number.ensures turn says c.woken-turned.ensures further (linked old closed c.closed-closed.ensures.below c.closed-closed.ensures.joined)))
