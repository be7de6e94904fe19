use Rattle.std.proofs.Common.{◌∙◌, subst}
use Rattle.std.specs.Prelude.{codes}
use Rattle.clap.specs.Words.{found_of, rows_of}
use Rattle.clap.proofs.WalkLemmas.{first_value-rows}
use Rattle.command_line.specs.Requests.{Asks}
use Rattle.command_line.proofs.request.invoked.Goals as goal

pub returns-in_ok-inputs-in-Some : goal.returns-in_ok-inputs-in-Some
returns-in_ok-inputs-in-Some c = (
  subst (Asks c.args.name.now (rows_of (found_of c.args.found.now))) c.in-Some.is c.in_ok-request.ensures,
  c.in_ok-inputs-in-Some.ensures,
  c.get_str.ensures ∙ first_value-rows (found_of c.args.found.now) (codes "link"),
  c.accept_of.ensures,
  c.file_words.ensures,
)
