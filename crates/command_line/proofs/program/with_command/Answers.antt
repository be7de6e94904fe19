use Rattle.std.proofs.Common.{ap, subst, ◌∙◌}
use Rattle.std.specs.Prelude.{IfOk}
use Rattle.std.proofs.lemmas.Result.{IfOk-weaker}
use Rattle.clap.specs.Words.{app_of, with_subcommand}
use Rattle.command_line.specs.Program.{IsCommand}
use Rattle.command_line.proofs.Commands.{no_globals, shape_is}
use Rattle.command_line.proofs.program.with_command.Goals as goal

pub returns-in-Ok : goal.returns-in-Ok
returns-in-Ok c = λ name rules made.
    let is : IsCommand name rules c.in-Ok.command = subst (λ made. IfOk made (IsCommand name rules)) c.in-Ok.is made in
    IfOk-weaker c.subcommand.result _ _ (λ r adds. adds.shape (no_globals _ _ _ is) ∙ ap (with_subcommand (app_of c.args.line)) (shape_is _ _ _ is)) c.subcommand.ensures
