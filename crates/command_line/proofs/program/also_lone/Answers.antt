use Rattle.std.proofs.Common.{◌≡◌, ap, subst, ◌∙◌, false}
use Rattle.std.specs.Prelude.{IfOk}
use Rattle.std.proofs.lemmas.Result.{IfOk-weaker}
use Rattle.clap.specs.Walk.{rule_of}
use Rattle.clap.specs.Words.{Rule}
use Rattle.command_line.specs.Program.{lone_flag}
use Rattle.command_line.proofs.Commands.{adds_conflict}
use Rattle.command_line.proofs.program.also_lone.Goals as goal

pub returns-in-Ok-clause-rule : goal.returns-in-Ok-clause-rule
returns-in-Ok-clause-rule c = λ name made.
    let is : rule_of c.in-Ok.argument ≡ lone_flag name = subst (λ made. IfOk made (λ a. rule_of a ≡ lone_flag name)) c.in-Ok.is made in
    IfOk-weaker c.conflicts_with.result _ _ (λ a adds. adds_conflict c.in-Ok.argument a c.args.other adds ∙ ap (λ (rule : Rule). record rule { is_free = false }) is) c.conflicts_with.ensures
