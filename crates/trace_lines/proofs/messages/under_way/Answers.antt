use Rattle.std.proofs.Common.{◌∙◌, arith, rules}
use Rattle.std.proofs.lemmas.Grind.{common_steps}
use Rattle.trace_lines.proofs.Linking.{all_left}
use Rattle.trace_lines.proofs.messages.under_way.Goals as goal

pub returns : goal.returns
returns c = λ highest past follows. first_of (search rules, grind (arith, common_steps)) ∙ all_left highest past c.args.state.now follows
