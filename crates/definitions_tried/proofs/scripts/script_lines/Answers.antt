use Rattle.std.proofs.Common.{refl}
use Rattle.definitions_tried.proofs.scripts.script_lines.Goals as goal

pub returns-clause-skipped_and_counted : goal.returns-clause-skipped_and_counted
returns-clause-skipped_and_counted c = refl

pub returns-clause-block : goal.returns-clause-block
returns-clause-block c = refl
