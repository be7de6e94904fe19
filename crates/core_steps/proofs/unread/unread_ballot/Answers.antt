use Rattle.core_steps.proofs.unread.unread_ballot.Goals as goal

pub returns-clause-unread : goal.returns-clause-unread
returns-clause-unread c = c.loaded_ballot.ensures.unread c.args.bytes.now c.in-Ok.ensures.found
