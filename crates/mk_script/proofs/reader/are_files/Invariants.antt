use Rattle.std.proofs.Common.{take}
use Rattle.mk_script.specs.Scripts.{AreFiles}
use Rattle.mk_script.proofs.reader.are_files.Given as goal

abbrev pub invariant-loop-file : goal.invariant-loop-file
invariant-loop-file l = AreFiles (take l.file-index l.files)
