use Rattle.mk_script.proofs.drafts.draft_by.Goals as goal

pub returns-in-Submit-clause-follows : goal.returns-in-Submit-clause-follows
returns-in-Submit-clause-follows c = c.submit.ensures.follows c.args.reading.now

pub returns-in-StartFor-clause-follows : goal.returns-in-StartFor-clause-follows
returns-in-StartFor-clause-follows c = c.start_for.ensures.follows c.args.reading.now

pub returns-in-Take-clause-follows : goal.returns-in-Take-clause-follows
returns-in-Take-clause-follows c = c.take.ensures.follows c.args.reading.now

pub returns-in-Show-clause-follows : goal.returns-in-Show-clause-follows
returns-in-Show-clause-follows c = c.show.ensures.follows c.args.reading.now
