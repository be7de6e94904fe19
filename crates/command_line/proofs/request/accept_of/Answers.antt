use Rattle.std.proofs.Common.{◌∙◌}
use Rattle.std.specs.Prelude.{codes}
use Rattle.clap.specs.Words.{found_of}
use Rattle.clap.proofs.WalkLemmas.{one_text-rows}
use Rattle.command_line.proofs.Readings.{spelled_number}
use Rattle.command_line.proofs.request.accept_of.Goals as goal

pub returns : goal.returns
returns c = (
  λ none. c.get_one.ensures.none (one_text-rows (found_of c.args.found.now) (codes "snap") ∙ none),
  λ text is. spelled_number text c.get_one.result (c.get_one.ensures.value text (one_text-rows (found_of c.args.found.now) (codes "snap") ∙ is)),
)
