use Rattle.command_line.proofs.program.explain.Goals as goal

pub returns-clause-rule : goal.returns-clause-rule
returns-clause-rule c =
    c.also_lone.ensures.rule _ (c.also_lone-explain-2.ensures.rule _ (c.also_lone-explain.ensures.rule _ c.lone_flag-explain.ensures.rule))

pub returns-clause-local : goal.returns-clause-local
returns-clause-local c =
    c.also_lone.ensures.local (c.also_lone-explain-2.ensures.local (c.also_lone-explain.ensures.local c.lone_flag-explain.ensures.local))
