use Rattle.std.proofs.Common.{ℕ, List, subst, sym}
use Rattle.monitor_messages.specs.Coding.{Coded}
use Rattle.core_loop.proofs.Handing.{answer_numbered}
use Rattle.core_loop.proofs.other_core.send_answer.Goals as goal

pub returns-clause-there : goal.returns-clause-there
returns-clause-there g c =
    c.hand_short.ensures.there c.args.stamp c.args.answer.now (subst (λ (bs : List ℕ). Coded bs c.args.stamp c.args.answer.now) (sym c.deref.ensures.0) (c.in-Some.ensures.coded (answer_numbered c.args.answer.now c.requires.answer)))
