use Rattle.std.proofs.Common.{◌∙◌, Some, ap}
use Rattle.two_phase.specs.declared.step.Say.{Say}
use Rattle.core_steps.proofs.Sending.{vote_sent, said_by}
use Rattle.core_steps.proofs.core0.Core0.vote_sends.Goals as goal

pub returns-in-Some-Commit-clause-sends : goal.returns-in-Some-Commit-clause-sends
returns-in-Some-Commit-clause-sends c = λ after told h.
    let x = h.here.hears in
    let says = c.verdict_after.ensures _ _ h.entry c.args.txn _ _ told.step h.is_core x in
    vote_sent _ c.args.txn x.op _ _ h.committed told.step x.tallies ∙ ap (said_by c.args.txn) (says ∙ (c.in-Some-Commit.is ∙ ap (λ (s : Say). Some s) c.in-Some-Commit.field-0-is))

pub returns-in-Some-Abort-clause-sends : goal.returns-in-Some-Abort-clause-sends
returns-in-Some-Abort-clause-sends c = λ after told h.
    let x = h.here.hears in
    let says = c.verdict_after.ensures _ _ h.entry c.args.txn _ _ told.step h.is_core x in
    vote_sent _ c.args.txn x.op _ _ h.committed told.step x.tallies ∙ ap (said_by c.args.txn) (says ∙ (c.in-Some-Abort.is ∙ ap (λ (s : Say). Some s) c.in-Some-Abort.field-0-is))

pub returns-in-Some-Prepare-clause-sends : goal.returns-in-Some-Prepare-clause-sends
returns-in-Some-Prepare-clause-sends c = λ after told h.
    let x = h.here.hears in
    let says = c.verdict_after.ensures _ _ h.entry c.args.txn _ _ told.step h.is_core x in
    vote_sent _ c.args.txn x.op _ _ h.committed told.step x.tallies ∙ ap (said_by c.args.txn) (says ∙ (c.in-Some-Prepare.is ∙ ap (λ (s : Say). Some s) c.in-Some-Prepare.field-0-is))

pub returns-in-None-clause-sends : goal.returns-in-None-clause-sends
returns-in-None-clause-sends c = λ after told h.
    let x = h.here.hears in
    let says = c.verdict_after.ensures _ _ h.entry c.args.txn _ _ told.step h.is_core x in
    vote_sent _ c.args.txn x.op _ _ h.committed told.step x.tallies ∙ ap (said_by c.args.txn) (says ∙ c.in-None.is)
