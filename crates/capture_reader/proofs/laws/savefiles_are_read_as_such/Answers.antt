use Rattle.capture_reader.proofs.LawLemmas.{read_as_savefile}
use Rattle.capture_reader.proofs.laws.savefiles_are_read_as_such.Goals as goal

pub returns : goal.returns
returns c = read_as_savefile
