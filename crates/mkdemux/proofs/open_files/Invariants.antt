use Rattle.script_input.specs.Inputs.{AllFresh}
use Rattle.mkdemux.proofs.open_files.Given as goal

abbrev pub invariant-loop-name : goal.invariant-loop-name
invariant-loop-name l = AllFresh l.files.items
