use Rattle.std.proofs.Common.{ap, ◌∙◌, false}
use Rattle.std.proofs.lemmas.Result.{IfOk-weaker}
use Rattle.clap.specs.Words.{Rule}
use Rattle.command_line.proofs.Commands.{adds_conflict}
use Rattle.command_line.proofs.program.lone_flag.Goals as goal

pub returns-clause-rule : goal.returns-clause-rule
returns-clause-rule c =
    IfOk-weaker c.conflicts_with.result _ _ (λ a adds. adds_conflict c.flag.result a c.args.other adds ∙ ap (λ (rule : Rule). record rule { is_free = false }) c.flag.ensures.rule) c.conflicts_with.ensures
