use Rattle.capture_reader.proofs.LawLemmas.{few_captured}
use Rattle.capture_reader.proofs.laws.captured_bytes_are_few.Goals as goal

pub returns : goal.returns
returns c = few_captured
