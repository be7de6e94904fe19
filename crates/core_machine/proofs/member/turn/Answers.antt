use Rattle.std.proofs.Common.{Option, refl, sym, subst}
use Rattle.std.specs.Prelude.{IfSome, IfNone}
use Rattle.core_machine.specs.declared.halt.Halt.{Halt}
use Rattle.core_machine.specs.Rounds.{GoesOn, Halts}
use Rattle.core_machine.proofs.Answering.{Answered, answered_keeps, answered_none, answered_some}
use Rattle.core_machine.proofs.member.turn.Goals as goal
use Rattle.core_machine.proofs.member.turn.Goals.{After-halt_of}

answered : (c : After-halt_of) → Answered c.turn.result c.args.core.now c.turn.new.self
answered c =
    let e = c.turn.ensures in
    record {
      core = e.core;
      requests = e.requests;
      did = e.did;
      leave = λ s d is. e.leave s d is refl;
      other = e.other;
      stopped = e.stopped;
      spent = e.spent;
      lacks = e.lacks;
      idles = λ is nothing. record { nothing = nothing; no_message = e.idle_message is; no_request = e.idle is; lines = e.lines is; full = e.full is; dry = e.dry is };
    }

pub returns-clause-keeps : goal.returns-clause-keeps
returns-clause-keeps c = answered_keeps c.turn.result c.args.core.now c.turn.new.self (answered c)

pub returns-clause-none : goal.returns-clause-none
returns-clause-none c = subst (λ (r : Option Halt). IfNone r (GoesOn c.args.core.now c.turn.new.self)) (sym c.halt_of.ensures) (answered_none c.turn.result c.args.core.now c.turn.new.self (answered c))

pub returns-clause-some : goal.returns-clause-some
returns-clause-some c = subst (λ (r : Option Halt). IfSome r (λ why. Halts ⊥ why c.turn.new.self)) (sym c.halt_of.ensures) (answered_some c.turn.result c.args.core.now c.turn.new.self (answered c))
