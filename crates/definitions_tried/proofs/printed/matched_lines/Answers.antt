use Rattle.std.proofs.Common.{refl}
use Rattle.std.specs.Fmt.{digits}
use Rattle.hex.specs.Hex.{decode_pairs}
use Rattle.definitions_tried.proofs.printed.matched_lines.Goals as goal

pub returns-clause-of_an_outcome : goal.returns-clause-of_an_outcome
unfolding digits
returns-clause-of_an_outcome c = refl

pub returns-clause-of_a_bad_line : goal.returns-clause-of_a_bad_line
unfolding digits
returns-clause-of_a_bad_line c = refl

pub returns-clause-digits_of_either_case : goal.returns-clause-digits_of_either_case
unfolding decode_pairs
returns-clause-digits_of_either_case c = (refl, refl)

pub returns-clause-no_bytes : goal.returns-clause-no_bytes
unfolding decode_pairs
returns-clause-no_bytes c = (refl, refl)
