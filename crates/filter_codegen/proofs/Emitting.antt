-- What the parts of the code generator make together.
use Rattle.std.proofs.Common.{◌≡◌, ℕ, ◌+◌, ◌-◌, ◌<◌, ◌≤◌, inl, inr, List, ◌∷◌, length, Option, Some, None, sym, ap, subst, arith}
use Rattle.std.specs.Prelude.{option_map, option_and_then}
use Rattle.bpf_insn.specs.declared.insn.Insn.{Insn}
use Rattle.bpf_insn.specs.declared.form.Size.{Size}
use Rattle.bpf_insn.specs.declared.form.AluOp.TheVariants.{And}
use Rattle.bpf_insn.specs.declared.form.Form.TheVariants.{LdAbs, LdInd, LdLen, LdxImm, LdxMsh, AluK, JmpK}
use Rattle.bpf_insn.specs.Table.{form_of}
use Rattle.bpf_insn.specs.Machine.{Packet}
use Rattle.filter_cond.specs.declared.number.Load.TheVariants.{At, Past, Length}
use Rattle.filter_cond.specs.declared.check.Check.{Check}
use Rattle.filter_cond.specs.Numbers.{number_at, header_length, loaded}
use Rattle.filter_cond.specs.Means.{passes, tested}
use Rattle.filter_codegen.specs.declared.plan.Bits.{Bits}
use Rattle.filter_codegen.specs.declared.plan.Held.{Held}
use Rattle.filter_codegen.specs.declared.plan.Start.TheVariants.{Branch, Mask, Load as FromLoad, Index}
use Rattle.filter_codegen.specs.Drafts.{Adds}
use Rattle.filter_codegen.specs.Graphs.{answer}
use Rattle.filter_codegen.specs.Held.{HoldsA, HoldsX, Enters, own_header, IsNoneOr, IsWeaker}
use Rattle.filter_codegen.specs.Emits.{Branches, Masks, Loads, Indexes, Emits}
use Rattle.filter_codegen.proofs.Runs.{enters_more}
use Rattle.filter_codegen.proofs.Steps.{enters_branch, enters_mask, enters_at, enters_length, enters_past, enters_header, enters_far}
use Rattle.filter_codegen.proofs.Growth.{adds_none, adds_one, adds_both, adds_fewer, adds_length}

-- what is entered so stays so
pub enters_adds : (packet : Packet) (old new : List Insn) (most place : ℕ) (number : Option Bits) (header : Option ℕ) (verdict : ℕ) → Adds old new most → Enters packet old place number header verdict → Enters packet new place number header verdict
enters_adds packet old new most place number header verdict a e = subst (λ code. Enters packet code place number header verdict) (sym a.whole) (enters_more packet a.front old place number header verdict e)

-- registers of which more is known
holds_a : (packet : Packet) (weak strong : Option Bits) (a : ℕ) → IsNoneOr weak strong → HoldsA packet strong a → HoldsA packet weak a
holds_a packet weak strong a w h = elim w [ inl none ↦ subst (λ n. HoldsA packet n a) (sym none) tt | inr same ↦ subst (λ n. HoldsA packet n a) (sym same) h ]

holds_x : (packet : Packet) (weak strong : Option ℕ) (x : ℕ) → IsNoneOr weak strong → HoldsX packet strong x → HoldsX packet weak x
holds_x packet weak strong x w h = elim w [ inl none ↦ subst (λ n. HoldsX packet n x) (sym none) tt | inr same ↦ subst (λ n. HoldsX packet n x) (sym same) h ]

pub enters_weaker : (packet : Packet) (code : List Insn) (place : ℕ) (weak strong : Held) (verdict : ℕ) → IsWeaker weak strong → Enters packet code place weak.number weak.header verdict → Enters packet code place strong.number strong.header verdict
enters_weaker packet code place weak strong verdict w e = record {
  by = λ a x ha hx. e.by a x (holds_a packet weak.number strong.number a w.number ha) (holds_x packet weak.header strong.header x w.header hx);
}

-- the branch
pub branches_made : (check : Check) (pass fail jt jf : ℕ) (code : List Insn) (insn : Insn) → pass < length code → fail < length code → jt ≡ length code - 1 - pass → jf ≡ length code - 1 - fail → form_of insn ≡ Some (JmpK check.test check.value jt jf) → Branches check pass fail code (insn ∷ code) (length code)
branches_made check pass fail jt jf code insn in_pass in_fail over_t over_f is = record {
  adds = adds_one insn code (JmpK check.test check.value jt jf, is, (omega arith, omega arith));
  first = omega arith;
  enters = λ packet header accept reject ep ef.
      enters_branch packet insn code check header jt jf pass fail accept reject is (omega arith) (omega arith) ep ef;
}

-- the mask
pub masks_none : (check : Check) (old : List Insn) → check.mask ≡ None → Masks check old old
masks_none check old none = record {
  adds = adds_fewer old old 0 1 (omega arith) (adds_none old);
  enters = λ packet header verdict e. subst (λ m. Enters packet old (length old - 1) (Some (record { load = check.load; mask = m })) header verdict) none e;
}

pub masks_some : (check : Check) (old : List Insn) (mask : ℕ) (insn : Insn) → 0 < length old → check.mask ≡ Some mask → form_of insn ≡ Some (AluK And mask) → Masks check old (insn ∷ old)
masks_some check old mask insn some has is = record {
  adds = adds_one insn old (AluK And mask, is, some);
  enters = λ packet header verdict e.
      let at : length old ≡ length (insn ∷ old) - 1 = omega arith in
      subst (λ place. Enters packet (insn ∷ old) place (Some (record { load = check.load; mask = None })) header verdict) at
      (enters_mask packet insn old check.load header mask (length old - 1) verdict is (omega arith)
      (subst (λ m. Enters packet old (length old - 1) (Some (record { load = check.load; mask = m })) header verdict) has e));
}

-- the load
pub loads_at : (old : List Insn) (size : Size) (at : ℕ) (insn : Insn) → 0 < length old → at < 2147483648 → form_of insn ≡ Some (LdAbs size at) → Loads (At size at) old (insn ∷ old) (length old)
loads_at old size at insn some small is = record {
  adds = adds_one insn old (LdAbs size at, is, (small, some));
  first = omega arith;
  enters = λ packet number header verdict ready out e.
      enters_at packet insn old size at number header (length old - 1) verdict is small (omega arith) out e;
}

-- a place that an absolute load may not have: the index register is never ready
pub loads_never : (old : List Insn) (size : Size) (at : ℕ) (insn : Insn) → 0 < length old → 2147483648 ≤ at → form_of insn ≡ Some (LdInd size at) → Loads (At size at) old (insn ∷ old) (length old)
loads_never old size at insn some large is = record {
  adds = adds_one insn old (LdInd size at, is, some);
  first = omega arith;
  enters = λ packet number header verdict ready out e. absurd (omega arith);
}

pub loads_past : (old : List Insn) (size : Size) (own at : ℕ) (insn : Insn) → 0 < length old → form_of insn ≡ Some (LdInd size at) → Loads (Past size own at) old (insn ∷ old) (length old)
loads_past old size own at insn some is = record {
  adds = adds_one insn old (LdInd size at, is, some);
  first = omega arith;
  enters = λ packet number header verdict ready out e.
      subst (λ h. Enters packet (insn ∷ old) (length old) number h verdict) (sym ready)
      (enters_past packet insn old size own at number (length old - 1) verdict is (omega arith) out
      (subst (λ h. Enters packet old (length old - 1) (Some (record { load = Past size own at; mask = None })) h verdict) ready e));
}

pub loads_length : (old : List Insn) (insn : Insn) → 0 < length old → form_of insn ≡ Some LdLen → Loads Length old (insn ∷ old) (length old)
loads_length old insn some is = record {
  adds = adds_one insn old (LdLen, is, some);
  first = omega arith;
  enters = λ packet number header verdict ready out e.
      enters_length packet insn old number header (length old - 1) verdict is (omega arith) e;
}

-- the load with its index
pub indexes_far : (old : List Insn) (size : Size) (at : ℕ) (load index : Insn) → 0 < length old → form_of load ≡ Some (LdInd size at) → form_of index ≡ Some (LdxImm 0) → Indexes (At size at) old (index ∷ load ∷ old) (length (load ∷ old))
indexes_far old size at load index some is_load is_index = record {
  adds = adds_both old (load ∷ old) (index ∷ load ∷ old) 1 1 (adds_one load old (LdInd size at, is_load, some)) (adds_one index (load ∷ old) (LdxImm 0, is_index, omega arith));
  first = omega arith;
  enters = λ packet number header verdict out e.
      enters_far packet index load old size at number header (length old - 1) verdict is_index is_load (omega arith) out e;
}

no_header : (bytes : List ℕ) (size : Size) (own at : ℕ) → header_length bytes own ≡ None → option_and_then (λ past. number_at bytes size (past + at)) (header_length bytes own) ≡ None
no_header bytes size own at none = ap (option_and_then (λ past. number_at bytes size (past + at))) none

pub indexes_past : (old : List Insn) (size : Size) (own at : ℕ) (load index : Insn) → 0 < length old → form_of load ≡ Some (LdInd size at) → form_of index ≡ Some (LdxMsh own) → Indexes (Past size own at) old (index ∷ load ∷ old) (length (load ∷ old))
indexes_past old size own at load index some is_load is_index = record {
  adds = adds_both old (load ∷ old) (index ∷ load ∷ old) 1 1 (adds_one load old (LdInd size at, is_load, some)) (adds_one index (load ∷ old) (LdxMsh own, is_index, omega arith));
  first = omega arith;
  enters = λ packet number header verdict out e.
      enters_header packet index (load ∷ old) own number header (length old) verdict is_index (omega arith)
      (λ none. out (no_header packet.bytes size own at none))
      (enters_past packet load old size own at number (length old - 1) verdict is_load (omega arith) out e);
}

pub indexes_length : (old : List Insn) (insn : Insn) → 0 < length old → form_of insn ≡ Some LdLen → Indexes Length old (insn ∷ old) (length old)
indexes_length old insn some is = record {
  adds = adds_fewer old (insn ∷ old) 1 2 (omega arith) (adds_one insn old (LdLen, is, some));
  first = omega arith;
  enters = λ packet number header verdict out e.
      enters_length packet insn old number header (length old - 1) verdict is (omega arith)
      (record { by = λ a x ha hx. e.by a x ha tt });
}

-- whole tests
answer_none : (o : Option ℕ) (check : Check) (u v : ℕ) → o ≡ None → answer (option_map (passes check) o) u v ≡ 0
answer_none o check u v none = ap (λ p. answer (option_map (passes check) p) u v) none

module _ (check : Check) (pass fail : ℕ) (old : List Insn) where
  pub emits_branch : (new : List Insn) (place : ℕ) → Branches check pass fail old new place → Emits check Branch pass fail old new place
  emits_branch new place b = record {
    adds = adds_fewer old new 1 4 (omega arith) b.adds;
    first = b.first;
    enters = λ packet held accept reject needs ep ef.
        subst (λ n. Enters packet new place n held.header (answer (tested check packet) accept reject)) (sym needs) (b.enters packet held.header accept reject ep ef);
  }

  -- behind the branch
  branched : (one : List Insn) (p : ℕ) → Branches check pass fail old one p → (packet : Packet) (header : Option ℕ) (accept reject : ℕ) → Enters packet old pass (Some (record { load = check.load; mask = check.mask })) header accept → Enters packet old fail (Some (record { load = check.load; mask = check.mask })) header reject → Enters packet one (length one - 1) (Some (record { load = check.load; mask = check.mask })) header (answer (tested check packet) accept reject)
  branched one p b packet header accept reject ep ef =
      let first = b.first in
      let at : p ≡ length one - 1 = omega arith in
      subst (λ n. Enters packet one n (Some (record { load = check.load; mask = check.mask })) header (answer (tested check packet) accept reject)) at (b.enters packet header accept reject ep ef)

  pub emits_mask : (one new : List Insn) (p place : ℕ) → place ≡ length new - 1 → Branches check pass fail old one p → Masks check one new → Emits check Mask pass fail old new place
  emits_mask one new p place is b m =
      let grown = adds_length old one 1 b.adds in
      let more = adds_length one new 1 m.adds in
      let first = b.first in
      subst (Emits check Mask pass fail old new) (sym is) (record {
        adds = adds_fewer old new 2 4 (omega arith) (adds_both old one new 1 1 b.adds m.adds);
        first = omega arith;
        enters = λ packet held accept reject needs ep ef.
            subst (λ n. Enters packet new (length new - 1) n held.header (answer (tested check packet) accept reject)) (sym needs)
            (m.enters packet held.header (answer (tested check packet) accept reject) (branched one p b packet held.header accept reject ep ef));
      })

  pub emits_load : (one two new : List Insn) (p place : ℕ) → Branches check pass fail old one p → Masks check one two → Loads check.load two new place → Emits check FromLoad pass fail old new place
  emits_load one two new p place b m l = record {
    adds = adds_fewer old new 3 4 (omega arith) (adds_both old two new 2 1 (adds_both old one two 1 1 b.adds m.adds) l.adds);
    first = l.first;
    enters = λ packet held accept reject needs ep ef.
        l.enters packet held.number held.header (answer (tested check packet) accept reject) needs (answer_none (loaded check.load packet) check accept reject)
        (m.enters packet held.header (answer (tested check packet) accept reject) (branched one p b packet held.header accept reject ep ef));
  }

  pub emits_index : (one two new : List Insn) (p place : ℕ) → Branches check pass fail old one p → Masks check one two → Indexes check.load two new place → Emits check Index pass fail old new place
  emits_index one two new p place b m l = record {
    adds = adds_both old two new 2 2 (adds_both old one two 1 1 b.adds m.adds) l.adds;
    first = l.first;
    enters = λ packet held accept reject needs ep ef.
        l.enters packet held.number held.header (answer (tested check packet) accept reject) (answer_none (loaded check.load packet) check accept reject)
        (m.enters packet (own_header check.load) (answer (tested check packet) accept reject) (branched one p b packet (own_header check.load) accept reject ep ef));
  }
