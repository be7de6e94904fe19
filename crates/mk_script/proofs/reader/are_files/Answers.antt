use Rattle.std.proofs.Common.{◌<◌, ℕ, List, subst}
use Rattle.std.specs.List.{All}
use Rattle.std.proofs.lemmas.List.{take_all}
use Rattle.mk_script.specs.Scripts.{AreFiles}
use Rattle.mk_script.proofs.FileLemmas.{files_more}
use Rattle.mk_script.proofs.reader.are_files.Goals as goal

pub loop-file-preserved : goal.loop-file-preserved
loop-file-preserved c =
    let file = c.file-item.result in
    let bytes = subst (λ (b : List ℕ). All (λ x. x < 256) b) c.as_slice.ensures c.are_bytes.ensures in
    files_more c.args.files.now c.loop-file.file-index file c.loop-file-test.true c.file-item.is c.loop-file.invariant bytes

pub returns : goal.returns
returns c = subst AreFiles (take_all c.loop-file.file-index c.args.files.now c.loop-file-test.false) c.loop-file.invariant
