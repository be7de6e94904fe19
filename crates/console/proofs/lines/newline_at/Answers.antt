use Rattle.console.proofs.LineLemmas.{newline_first}
use Rattle.console.proofs.lines.newline_at.Goals as goal

pub returns : goal.returns
returns c = newline_first c.args.text.now c.memchr.result c.memchr.ensures
