use Rattle.std.proofs.Common.{ap₂, rules, ◌∙◌}
use Rattle.std.proofs.lemmas.Result.{IfOk-weaker}
use Rattle.clap.specs.Words.{with_rule}
use Rattle.command_line.proofs.program.drawing.Goals as goal

pub returns : goal.returns
returns c =
    let with_text = c.in_ok-arg.ensures.shape (search rules) ∙ ap₂ with_rule c.described.ensures c.flag.ensures.rule in
    IfOk-weaker c.arg-2.result _ _ (λ r h. h.shape (search rules) ∙ ap₂ with_rule with_text c.file.ensures.rule) c.arg-2.ensures
