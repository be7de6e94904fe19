-- A program that the verifier accepts has an assembler text.
use Rattle.std.proofs.Common.{◌≡◌, ℕ, List, Option, Some, None, refl}
use Rattle.bpf_insn.specs.declared.insn.Insn.{Insn}
use Rattle.bpf_insn.specs.declared.form.Form.{Form}
use Rattle.bpf_insn.specs.Program.{FormAt, form_at}
use Rattle.bpf_insn.specs.AsmText.{IsPrintable}
use Rattle.filter_verify.specs.Rules.{Sound}
use Rattle.filter_verify.specs.declared.rules.Refusal.TheVariants.{BadCode, JumpOut}

has_form : (program : List Insn) (pc : ℕ) (found : Option Form) → form_at program pc ≡ found → (form_at program pc ≡ None → ⊥) → (form : Form) × FormAt program pc form
has_form program pc None is never = absurd (never is)
has_form program pc (Some form) is never = (form, is)

pub is_printable : (program : List Insn) → Sound program → IsPrintable program
is_printable program sound = record {
  short = sound.shaped.sized.1;
  each = λ pc within. (
    has_form program pc (form_at program pc) refl (λ none. sound.shaped.fine pc within (BadCode pc) (refl, none)),
    λ out. sound.shaped.fine pc within (JumpOut pc) (refl, out),
  );
}
