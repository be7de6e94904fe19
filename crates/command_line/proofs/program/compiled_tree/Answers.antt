use Rattle.command_line.proofs.program.compiled_tree.Goals as goal

pub returns-clause-rule : goal.returns-clause-rule
returns-clause-rule c = c.also_lone.ensures.rule _ (c.also_lone-tree.ensures.rule _ c.lone_flag-tree.ensures.rule)

pub returns-clause-local : goal.returns-clause-local
returns-clause-local c = c.also_lone.ensures.local (c.also_lone-tree.ensures.local c.lone_flag-tree.ensures.local)
