use Rattle.std.proofs.Common.{ap₂, refl, rules, ◌∙◌}
use Rattle.std.proofs.lemmas.Result.{IfOk-weaker}
use Rattle.clap.specs.Words.{with_rule}
use Rattle.command_line.proofs.Commands.{is_argument}
use Rattle.command_line.proofs.program.compiling.Goals as goal

pub returns : goal.returns
returns c =
    let with_asm = c.in_ok-command.ensures.shape (search rules) ∙ ap₂ with_rule c.described.ensures c.flag.ensures.rule in
    let with_c = c.in_ok-command-2.ensures _ (is_argument c.lone_flag.result _ c.lone_flag.ensures.rule c.lone_flag.ensures.local) ∙ ap₂ with_rule with_asm refl in
    let with_graph = c.in_ok-command-3.ensures _ (is_argument c.compiled_graph.result _ c.compiled_graph.ensures.rule c.compiled_graph.ensures.local) ∙ ap₂ with_rule with_c refl in
    let with_tree = c.in_ok-command-4.ensures _ (is_argument c.compiled_tree.result _ c.compiled_tree.ensures.rule c.compiled_tree.ensures.local) ∙ ap₂ with_rule with_graph refl in
    let with_link = c.in_ok-arg.ensures.shape c.link.ensures.local ∙ ap₂ with_rule with_tree c.link.ensures.rule in
    let with_snap = c.in_ok-arg-2.ensures.shape c.snap.ensures.local ∙ ap₂ with_rule with_link c.snap.ensures.rule in
    IfOk-weaker c.arg-4.result _ _ (λ r h. h.shape c.words.ensures.local ∙ ap₂ with_rule with_snap c.words.ensures.rule) c.arg-4.ensures
