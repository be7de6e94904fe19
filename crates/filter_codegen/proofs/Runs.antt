-- Runs of programs that end in a given code.
use Rattle.std.proofs.Common.{◌≡◌, ℕ, suc, ◌+◌, ◌<◌, List, [], ◌∷◌, ◌++◌, length, Option, Some, None, refl, sym, ap, ◌∙◌, subst, arith, append_assoc, length-append}
use Rattle.std.specs.Prelude.{slice_get}
use Rattle.std.proofs.Math.Seq.{get_or-append_seam}
use Rattle.std.proofs.lemmas.Option.{slice_get-get_or}
use Rattle.bpf_insn.specs.declared.insn.Insn.{Insn}
use Rattle.bpf_insn.specs.declared.form.Form.{Form}
use Rattle.bpf_insn.specs.Table.{form_of}
use Rattle.bpf_insn.specs.Program.{FormAt}
use Rattle.bpf_insn.specs.Machine.{Packet, State, Does, Halts, Step, opening}
use Rattle.filter_verify.proofs.Shapes.{form_at_got}
use Rattle.filter_vm.specs.Standing.{EndsWith}
use Rattle.filter_vm.proofs.Chains.{Chain-before}
use Rattle.filter_codegen.specs.declared.plan.Bits.{Bits}
use Rattle.filter_codegen.specs.Reaches.{Finishes, Reaches}
use Rattle.filter_codegen.specs.Held.{Enters}

-- one step before
finishes_step : (program : List Insn) (packet : Packet) (s t : State) (verdict : ℕ) → Step program packet s t → Finishes program packet t verdict → Finishes program packet s verdict
finishes_step program packet s t verdict step f =
    record { steps = suc f.steps; state = f.state; chain = Chain-before program packet f.steps s t f.state step f.chain; last = f.last }

-- the form at the front of the code
front_form : (front code : List Insn) (insn : Insn) (pc : ℕ) (form : Form) → form_of insn ≡ Some form → pc + length code + 1 ≡ length (front ++ insn ∷ code) → FormAt (front ++ insn ∷ code) pc form
front_form front code insn pc form is e =
    let program = front ++ insn ∷ code in
    let at : length front ≡ pc = omega (arith, length-append front (insn ∷ code)) in
    let within : length front < length program = omega (arith, length-append front (insn ∷ code)) in
    let here : slice_get program (length front) ≡ Some insn = slice_get-get_or program (length front) insn within ∙ ap Some (get_or-append_seam front insn code insn) in
    subst (λ n. FormAt program n form) at (form_at_got program (length front) insn (Some form) here (sym is))

module _ (packet : Packet) where
  -- the same where more instructions come before
  pub reaches_more : (more code : List Insn) (place a x verdict : ℕ) → Reaches packet code place a x verdict → Reaches packet (more ++ code) place a x verdict
  reaches_more more code place a x verdict r = record {
    from = λ front s ea ex e.
        let same = append_assoc front more code in
        subst (λ p. Finishes p packet s verdict) same (r.from (front ++ more) s ea ex (e ∙ ap length (sym same)));
  }

  pub enters_more : (more code : List Insn) (place : ℕ) (number : Option Bits) (header : Option ℕ) (verdict : ℕ) → Enters packet code place number header verdict → Enters packet (more ++ code) place number header verdict
  enters_more more code place number header verdict e = record { by = λ a x ha hx. reaches_more more code place a x verdict (e.by a x ha hx) }

  -- an instruction that goes on in the code
  pub reaches_step : (insn : Insn) (code : List Insn) (form : Form) (a x place b y verdict : ℕ) → form_of insn ≡ Some form → ((s : State) → s.a ≡ a → s.x ≡ x → (t : State) × Does packet form s t × (t.a ≡ b) × (t.x ≡ y) × (t.pc + place ≡ s.pc + length code)) → Reaches packet code place b y verdict → Reaches packet (insn ∷ code) (length code) a x verdict
  reaches_step insn code form a x place b y verdict is does r = record {
    from = λ front s ea ex e.
        let d = does s ea ex in
        let there = d.4 in
        let on = reaches_more (insn ∷ []) code place b y verdict r in
        finishes_step (front ++ insn ∷ code) packet s d.0 verdict (form, front_form front code insn s.pc form is e, d.1) (on.from front d.0 d.2 d.3 (omega arith));
  }

  -- an instruction that ends the run
  pub reaches_last : (insn : Insn) (code : List Insn) (form : Form) (a x verdict : ℕ) → form_of insn ≡ Some form → ((s : State) → s.a ≡ a → s.x ≡ x → Halts packet form s verdict) → Reaches packet (insn ∷ code) (length code) a x verdict
  reaches_last insn code form a x verdict is halts = record {
    from = λ front s ea ex e.
        record { steps = 0; state = s; chain = refl; last = (form, front_form front code insn s.pc form is e, halts s ea ex) };
  }

  -- from the first instruction
  pub ends_with : (code : List Insn) (place verdict : ℕ) → place + 1 ≡ length code → Enters packet code place None None verdict → EndsWith code packet verdict
  ends_with code place verdict first e =
      let r = e.by 0 0 tt tt in
      let f = r.from [] opening refl refl (omega arith) in
      (f.steps + 1, record { before = f.steps; counted = refl; state = f.state; chain = f.chain; last = f.last })
