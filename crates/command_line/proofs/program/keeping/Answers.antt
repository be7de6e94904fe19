use Rattle.std.proofs.Common.{ap₂, ◌∙◌}
use Rattle.std.proofs.lemmas.Result.{IfOk-weaker}
use Rattle.clap.specs.Words.{with_rule}
use Rattle.command_line.proofs.program.keeping.Goals as goal

pub returns : goal.returns
returns c =
    let with_code = c.in_ok-arg.ensures.shape c.code.ensures.local ∙ ap₂ with_rule c.described.ensures c.code.ensures.rule in
    let with_code_flag = c.in_ok-arg-2.ensures.shape c.code_flag.ensures.local ∙ ap₂ with_rule with_code c.code_flag.ensures.rule in
    let with_not = c.in_ok-arg-3.ensures.shape c.flag.ensures.local ∙ ap₂ with_rule with_code_flag c.flag.ensures.rule in
    let with_link = c.in_ok-arg-4.ensures.shape c.link.ensures.local ∙ ap₂ with_rule with_not c.link.ensures.rule in
    IfOk-weaker c.arg-5.result _ _ (λ r h. h.shape c.file.ensures.local ∙ ap₂ with_rule with_link c.file.ensures.rule) c.arg-5.ensures
