use Rattle.std.proofs.Common.{Option, refl, ap}
use Rattle.std.proofs.lemmas.Result.{IfOk-weaker}
use Rattle.filter_table.specs.declared.operation.Op.{Op}
use Rattle.core_steps.specs.declared.other_core.OtherCore.{OtherCore}
use Rattle.core_steps.proofs.other_core.OtherCore.consider_unread.Goals as goal

pub returns-clause-considers : goal.returns-clause-considers
returns-clause-considers c =
    let core : OtherCore = c.args.self.now in
    IfOk-weaker c.unread_ballot.result _ _ (λ ballot h. (h.op, h.coded, λ short. (h.not_voted, h.next, h.casts short, ap (λ (s : Option Op). record core { replica = record core.replica { staged = s } }) h.stages_none, refl))) c.unread_ballot.ensures.ballot
