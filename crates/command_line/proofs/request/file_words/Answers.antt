use Rattle.std.specs.Prelude.{codes}
use Rattle.command_line.proofs.Readings.{is_flag}
use Rattle.command_line.proofs.request.file_words.Goals as goal

pub returns : goal.returns
returns c = (
  (is_flag c.args.found.now (codes "code-file") c.get_flag.result c.get_flag.ensures.value c.get_flag.ensures.other),
  (is_flag c.args.found.now (codes "hex") c.get_flag-2.result c.get_flag-2.ensures.value c.get_flag-2.ensures.other),
  (is_flag c.args.found.now (codes "no-filename") c.get_flag-3.result c.get_flag-3.ensures.value c.get_flag-3.ensures.other),
)
