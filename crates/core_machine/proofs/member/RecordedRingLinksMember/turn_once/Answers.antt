use Rattle.std.proofs.Common.{Option, refl, sym, subst}
use Rattle.std.specs.Prelude.{IfSome, IfNone}
use Rattle.core_machine.specs.declared.halt.Halt.{Halt}
use Rattle.core_machine.specs.Rounds.{GoesOn, Halts}
use Rattle.core_machine.proofs.Answering.{Recounted, recounted_keeps, recounted_none, recounted_some}
use Rattle.core_machine.proofs.member.RecordedRingLinksMember.turn_once.Goals as goal
use Rattle.core_machine.proofs.member.RecordedRingLinksMember.turn_once.Goals.{After-recorded_halt_of}

recounted : (c : After-recorded_halt_of) → Recounted c.turn.result c.args.self.now c.turn.new.self
recounted c =
    let e = c.turn.ensures in
    record {
      core = e.core;
      requests = e.requests;
      did = λ is. let d = e.did is in (d.0, d.1, d.2 refl);
      other = e.other;
      stopped = e.stopped;
      spent = e.spent;
      lacks = e.lacks;
      idles = λ is nothing. record { nothing = nothing; no_message = e.idle_message is; no_request = e.idle is; lines = e.lines is; full = e.full is; dry = e.dry is };
    }

pub returns-clause-keeps : goal.returns-clause-keeps
returns-clause-keeps c = recounted_keeps c.turn.result c.args.self.now c.turn.new.self (recounted c)

pub returns-clause-none : goal.returns-clause-none
returns-clause-none c = subst (λ (r : Option Halt). IfNone r (GoesOn c.args.self.now c.turn.new.self)) (sym c.recorded_halt_of.ensures) (recounted_none c.turn.result c.args.self.now c.turn.new.self (recounted c))

pub returns-clause-some : goal.returns-clause-some
returns-clause-some c = subst (λ (r : Option Halt). IfSome r (λ why. Halts (Unit {0}) why c.turn.new.self)) (sym c.recorded_halt_of.ensures) (recounted_some c.turn.result c.args.self.now c.turn.new.self (recounted c))
