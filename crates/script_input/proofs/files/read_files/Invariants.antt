use Rattle.script_input.proofs.Reading.{ReadUpTo}
use Rattle.script_input.proofs.files.read_files.Given as goal

abbrev pub invariant-files : goal.invariant-files
invariant-files g l = ReadUpTo g.F.Read.remaining l.initial.files l.files l.held.items l.place
