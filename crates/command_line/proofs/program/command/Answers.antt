use Rattle.std.proofs.Common.{ap, ap₂, refl, true, ◌∙◌}
use Rattle.std.proofs.lemmas.Result.{IfOk-weaker}
use Rattle.clap.specs.Simple.{app_of_fields, on_top}
use Rattle.clap.specs.Words.{App, with_subcommand}
use Rattle.command_line.proofs.program.command.Goals as goal

abbrev required : App → App
required = on_top (λ s. record s { subcommand_required = true })

abbrev versioned : App → App
versioned = on_top (λ s. record s { has_version = true })

pub returns : goal.returns
returns c =
    let with_version = ap app_of_fields c.version.ensures ∙ ap versioned c.new.ensures.app in
    let described = ap app_of_fields c.after_help.ensures ∙ ap app_of_fields c.about.ensures ∙ with_version in
    let top = ap app_of_fields c.subcommand_required-command.ensures ∙ ap required described in
    let one = c.in_ok-command.ensures _ _ c.matching.ensures ∙ ap₂ with_subcommand top refl in
    let two = c.in_ok-command-2.ensures _ _ c.checking.ensures ∙ ap₂ with_subcommand one refl in
    let three = c.in_ok-command-3.ensures _ _ c.dumping.ensures ∙ ap₂ with_subcommand two refl in
    let four = c.in_ok-command-4.ensures _ _ c.keeping.ensures ∙ ap₂ with_subcommand three refl in
    let five = c.in_ok-command-5.ensures _ _ c.simulating.ensures ∙ ap₂ with_subcommand four refl in
    let six = c.in_ok-command-6.ensures _ _ c.running.ensures ∙ ap₂ with_subcommand five refl in
    let seven = c.in_ok-command-7.ensures _ _ c.drawing.ensures ∙ ap₂ with_subcommand six refl in
    IfOk-weaker c.with_command-8.result _ _ (λ r is. is ∙ ap₂ with_subcommand seven refl) (c.with_command-8.ensures _ _ c.compiling.ensures)
