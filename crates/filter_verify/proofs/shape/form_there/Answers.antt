use Rattle.std.proofs.Common.{◌≡◌, ◌∙◌, Option, Some, None, refl, rules}
use Rattle.std.specs.Option.{IsSome}
use Rattle.bpf_insn.specs.declared.form.Form.{Form}
use Rattle.filter_verify.proofs.Shapes.{Shaped-form, form_at_got}
use Rattle.filter_verify.proofs.shape.form_there.Goals as goal

-- what isn't missing is there
IsSome-not_none : (found : Option Form) → (found ≡ None → ⊥) → IsSome found
IsSome-not_none (Some form) h = search rules
IsSome-not_none None h = absurd (h refl)

pub unwrap-requires : goal.unwrap-requires
unwrap-requires g c =
    IsSome-not_none _ (λ none. Shaped-form _ c.requires.shaped _ c.requires.inside (form_at_got _ _ c.insn.result _ c.insn.ensures c.form.ensures ∙ none))

pub returns : goal.returns
returns g c = form_at_got _ _ c.insn.result _ c.insn.ensures c.form.ensures ∙ c.unwrap.ensures
