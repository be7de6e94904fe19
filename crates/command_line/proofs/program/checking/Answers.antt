use Rattle.std.proofs.Common.{ap₂, refl, rules, ◌∙◌}
use Rattle.std.proofs.lemmas.Result.{IfOk-weaker}
use Rattle.clap.specs.Words.{with_rule}
use Rattle.command_line.proofs.Commands.{is_argument}
use Rattle.command_line.proofs.program.checking.Goals as goal

pub returns : goal.returns
returns c =
    let with_asm = c.in_ok-command.ensures.shape (search rules) ∙ ap₂ with_rule c.described.ensures c.flag.ensures.rule in
    let with_graph = c.in_ok-with_argument.ensures _ (is_argument c.lone_flag.result _ c.lone_flag.ensures.rule c.lone_flag.ensures.local) ∙ ap₂ with_rule with_asm refl in
    let with_insns = c.in_ok-command-2.ensures.shape (search rules) ∙ ap₂ with_rule with_graph c.flag-2.ensures.rule in
    let with_ddd = c.in_ok-command-3.ensures _ (is_argument c.lone_flag-2.result _ c.lone_flag-2.ensures.rule c.lone_flag-2.ensures.local) ∙ ap₂ with_rule with_insns refl in
    IfOk-weaker c.arg-3.result _ _ (λ r h. h.shape (search rules) ∙ ap₂ with_rule with_ddd c.file.ensures.rule) c.arg-3.ensures
