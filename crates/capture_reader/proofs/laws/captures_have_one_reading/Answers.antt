use Rattle.capture_reader.proofs.LawLemmas.{has_reading, one_reading}
use Rattle.capture_reader.proofs.laws.captures_have_one_reading.Goals as goal

pub returns-clause-some : goal.returns-clause-some
returns-clause-some c = has_reading

pub returns-clause-one : goal.returns-clause-one
returns-clause-one c = one_reading
