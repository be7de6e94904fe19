-- Where jumps lead, and where an instruction prints.
use Rattle.std.proofs.Common.{◌≡◌, ℕ, ◌+◌, ◌<◌, ◌≤◌, ◌⊎◌, ◌↔◌, Bool, true, false, not, max, List, length, IsTrue, None, Some, inl, inr, arith, refl}
use Rattle.std.proofs.lemmas.Bool.{cases_lt}
use Rattle.bpf_insn.specs.declared.form.Form.{Form}
use Rattle.bpf_insn.specs.declared.insn.Insn.{Insn}
use Rattle.bpf_insn.specs.Program.{form_at, FormAt, JumpsTo}
use Rattle.bpf_insn.specs.AsmText.{PrintsAt}
use Rattle.bpf_insn.proofs.Places.{FormAt-same}

-- the farther one of two targets
pub farther : (pc jt jf : ℕ) → ((pc + 1 + max jt jf ≡ pc + 1 + jt) ⊎ (pc + 1 + max jt jf ≡ pc + 1 + jf)) × ((to : ℕ) → (to ≡ pc + 1 + jt) ⊎ (to ≡ pc + 1 + jf) → to ≤ pc + 1 + max jt jf)
farther pc jt jf = (
  elim (cases_lt jt jf) [ inl below ↦ inr (omega arith) | inr above ↦ inl (omega arith) ],
  λ to at. elim at [ inl e ↦ omega arith | inr e ↦ omega arith ],
)

-- an instruction without a form doesn't print
pub no_form_no_print : (program : List Insn) (pc : ℕ) → form_at program pc ≡ None → IsTrue false ↔ PrintsAt program pc
no_form_no_print program pc none = (λ test. absurd (cc), λ prints. let found : form_at program pc ≡ Some prints.0.0 = prints.0.1 in absurd (cc))

-- one with a form prints where it is no jump that leads outside
pub form_prints : (program : List Insn) (pc : ℕ) (form : Form) (out : Bool) → FormAt program pc form → (IsTrue out → (to : ℕ) × JumpsTo pc form to × (length program ≤ to))
    → ((IsTrue out → ⊥) → (to : ℕ) → JumpsTo pc form to → to < length program) → IsTrue (not out) ↔ PrintsAt program pc
form_prints program pc form true found leads stays = (
  λ never. absurd (cc),
  λ prints. let past = leads refl in absurd (prints.1 (form, past.0, found, past.1, past.2)),
)
form_prints program pc form false found leads stays = (
  λ _. (
    (form, found),
    λ out.
        let same : out.0 ≡ form = FormAt-same program pc out.0 form out.2 found in
        let jumps : JumpsTo pc form out.1 = rw same at out.3 in
        let inside : out.1 < length program = stays (λ test. cc) out.1 jumps in
        omega (arith, inside, out.4),
  ),
  λ _. refl,
)
