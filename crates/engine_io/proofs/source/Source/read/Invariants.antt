use Rattle.engine_io.proofs.source.Source.read.Given as goal

abbrev pub ghost-remembered : goal.ghost-remembered
ghost-remembered g a = a._bytes.now
