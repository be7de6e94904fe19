use Rattle.std.proofs.Common.{ap₂, refl, ◌∙◌}
use Rattle.std.proofs.lemmas.Result.{IfOk-weaker}
use Rattle.clap.specs.Words.{with_rule}
use Rattle.command_line.proofs.Commands.{is_argument}
use Rattle.command_line.proofs.program.matching.Goals as goal

pub returns : goal.returns
returns c =
    let with_code = c.in_ok-arg.ensures.shape c.code.ensures.local ∙ ap₂ with_rule c.described.ensures c.code.ensures.rule in
    let with_code_flag = c.in_ok-arg-2.ensures.shape c.code_flag.ensures.local ∙ ap₂ with_rule with_code c.code_flag.ensures.rule in
    let with_pcap = c.in_ok-command.ensures.shape c.flag.ensures.local ∙ ap₂ with_rule with_code_flag c.flag.ensures.rule in
    let with_hex = c.in_ok-with_argument.ensures _ (is_argument c.lone_flag.result _ c.lone_flag.ensures.rule c.lone_flag.ensures.local) ∙ ap₂ with_rule with_pcap refl in
    let with_stream = c.in_ok-arg-3.ensures.shape c.flag-2.ensures.local ∙ ap₂ with_rule with_hex c.flag-2.ensures.rule in
    let with_number = c.in_ok-arg-4.ensures.shape c.flag-3.ensures.local ∙ ap₂ with_rule with_stream c.flag-3.ensures.rule in
    let with_count = c.in_ok-command-2.ensures.shape c.flag-4.ensures.local ∙ ap₂ with_rule with_number c.flag-4.ensures.rule in
    let with_quiet = c.in_ok-command-3.ensures _ (is_argument c.quiet.result _ c.quiet.ensures.rule c.quiet.ensures.local) ∙ ap₂ with_rule with_count refl in
    let with_explain = c.in_ok-with_argument-2.ensures _ (is_argument c.explain.result _ c.explain.ensures.rule c.explain.ensures.local) ∙ ap₂ with_rule with_quiet refl in
    let with_names = c.in_ok-arg-5.ensures.shape c.flag-5.ensures.local ∙ ap₂ with_rule with_explain c.flag-5.ensures.rule in
    let with_link = c.in_ok-arg-6.ensures.shape c.link.ensures.local ∙ ap₂ with_rule with_names c.link.ensures.rule in
    let with_snap = c.in_ok-arg-7.ensures.shape c.snap.ensures.local ∙ ap₂ with_rule with_link c.snap.ensures.rule in
    IfOk-weaker c.arg-10.result _ _ (λ r h. h.shape c.inputs.ensures.local ∙ ap₂ with_rule with_snap c.inputs.ensures.rule) c.arg-10.ensures
