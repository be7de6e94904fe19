use Rattle.engine_io.proofs.remembering.remembered.Given as goal

abbrev pub ghost-with_all : goal.ghost-with_all
ghost-with_all g a = g.more
