use Rattle.script_input.specs.Inputs.{AllFresh}
use Rattle.tests_program.proofs.engines.sources.Given as goal

abbrev pub invariant-loop-file : goal.invariant-loop-file
invariant-loop-file g l = AllFresh l.sources.items
