use Rattle.command_line.proofs.program.compiled_graph.Goals as goal

pub returns-clause-rule : goal.returns-clause-rule
returns-clause-rule c = c.also_lone.ensures.rule _ c.lone_flag-graph.ensures.rule
