use Rattle.std.proofs.Common.{ap, subst, ◌∙◌, map}
use Rattle.clap.specs.Words.{App, is_simple, subcommand_of, takes}
use Rattle.command_line.specs.Requests.{AsksBy}
use Rattle.command_line.proofs.request.parsed.Goals as goal

pub returns-in-Err-clause-taken : goal.returns-in-Err-clause-taken
returns-in-Err-clause-taken g c = λ taken. c.in-Err.ensures.passes (ap (λ (a : App). takes a (map g.S.AsStr.text c.args.words.now)) c.in_ok-command.ensures ∙ taken)

pub returns-in_ok-chosen-in-Ok-clause-asked : goal.returns-in_ok-chosen-in-Ok-clause-asked
returns-in_ok-chosen-in-Ok-clause-asked g c =
    let command_is = c.in_ok-command.ensures in
    let read = (c.in-Ok.ensures.matches (ap is_simple command_is)).1 in
    subst (λ found. AsksBy found c.in_ok-chosen-in-Ok.field-0) (read ∙ ap (λ (a : App). subcommand_of a (map g.S.AsStr.text c.args.words.now)) command_is) c.in_ok-chosen-in-Ok.ensures
