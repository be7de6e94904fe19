use Rattle.std.proofs.Common.{append_assoc, ap, ◌∙◌, ◌++◌, ◌∷◌, [], string_bytes}
use Rattle.sim_lines.specs.Tables.{parent_word}
use Rattle.sim_lines.proofs.Texts.{same_text, pushed_text}
use Rattle.sim_lines.proofs.table.push_cap.Goals as goal

pub returns : goal.returns
returns c =
    same_text c.push_str.result (string_bytes c.push_str.new.self) (string_bytes c.push_parent.new.text ++ 10 ∷ []) _
    (pushed_text c.push_str.result (string_bytes c.push_str.new.self) (string_bytes c.push_parent.new.text) (10 ∷ []) c.push_str.ensures.bytes)
    (ap (λ t. t ++ 10 ∷ []) (c.in_ok-push_parent.ensures ∙ ap (λ t. t ++ parent_word c.args.cap.parent) c.in_ok-write.ensures.bytes)
    ∙ simp (append_assoc, c.rights_name-rights.ensures))
