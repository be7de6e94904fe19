-- What single instructions make of the runs that go on behind them.
use Rattle.std.proofs.Common.{◌≡◌, ℕ, ◌+◌, ◌*◌, ◌%◌, ◌<◌, ◌⊎◌, inl, inr, Bool, true, false, if◌then◌else◌, List, ◌∷◌, length, take, drop, Option, Some, None, refl, sym, ap, ◌∙◌, subst, arith}
use Rattle.std.specs.Prelude.{option_map, option_and_then, bit_and}
use Rattle.std.proofs.lemmas.Bool.{cases_lt, le-leb, lt-leb}
use Rattle.bpf_insn.specs.declared.insn.Insn.{Insn}
use Rattle.bpf_insn.specs.declared.form.Size.{Size}
use Rattle.bpf_insn.specs.declared.form.Size.TheVariants.{Byte}
use Rattle.bpf_insn.specs.declared.form.AluOp.TheVariants.{And}
use Rattle.bpf_insn.specs.declared.form.Test.{Test}
use Rattle.bpf_insn.specs.declared.form.Form.TheVariants.{LdAbs, LdInd, LdLen, LdxImm, LdxMsh, AluK, Ja, JmpK, RetK}
use Rattle.bpf_insn.specs.Table.{form_of}
use Rattle.bpf_insn.specs.Machine.{Packet, Reads, ReadsPast, width, big_endian, test_value}
use Rattle.filter_cond.specs.declared.number.Load.{Load}
use Rattle.filter_cond.specs.declared.number.Load.TheVariants.{At, Past, Length}
use Rattle.filter_cond.specs.declared.check.Check.{Check}
use Rattle.filter_cond.specs.Numbers.{number_at, header_length, loaded}
use Rattle.filter_cond.specs.Means.{masked, passes, tested}
use Rattle.filter_codegen.specs.declared.plan.Bits.{Bits}
use Rattle.filter_codegen.specs.Graphs.{answer}
use Rattle.filter_codegen.specs.Reaches.{Reaches}
use Rattle.filter_codegen.specs.Held.{Enters}
use Rattle.filter_codegen.proofs.Runs.{reaches_step, reaches_last}

-- a load finds its number, or is past the packet
number_or_past : (bytes : List ℕ) (size : Size) (at : ℕ) → ((value : ℕ) × Reads bytes size at value × (number_at bytes size at ≡ Some value)) ⊎ (ReadsPast bytes size at × (number_at bytes size at ≡ None))
number_or_past bytes size at =
    let value = big_endian (take (width size) (drop at bytes)) in
    elim (cases_lt (length bytes) (at + width size)) [
      | inl past ↦ inr (past, ap (λ b. if b then Some value else None) (lt-leb (at + width size) (length bytes) past))
      | inr there ↦ inl (value, (there, refl), ap (λ b. if b then Some value else None) (le-leb (at + width size) (length bytes) there))
    ]

tested_by : (number : Option ℕ) (check : Check) (a : ℕ) → option_map (masked check.mask) number ≡ Some a → option_map (passes check) number ≡ Some (test_value check.test a check.value)
tested_by None check a e = absurd (cc)
tested_by (Some n) check a e = let h : masked check.mask n ≡ a = cc in ap (λ m. Some (test_value check.test m check.value)) h

masked_by : (number : Option ℕ) (mask a : ℕ) → option_map (masked None) number ≡ Some a → option_map (masked (Some mask)) number ≡ Some (bit_and a mask)
masked_by None mask a e = absurd (cc)
masked_by (Some n) mask a e = let h : n ≡ a = cc in ap (λ m. Some (bit_and m mask)) h

past_at : (past : Option ℕ) (number : ℕ → Option ℕ) (x : ℕ) → past ≡ Some x → option_and_then number past ≡ number x
past_at past number x e = ap (option_and_then number) e

module _ (packet : Packet) (insn : Insn) (code : List Insn) where
  pub enters_end : (number : Option Bits) (header : Option ℕ) (k : ℕ) → form_of insn ≡ Some (RetK k) → Enters packet (insn ∷ code) (length code) number header k
  enters_end number header k is = record { by = λ a x ha hx. reaches_last packet insn code (RetK k) a x k is (λ s ea ex. refl) }

  pub enters_jump : (number : Option Bits) (header : Option ℕ) (k place verdict : ℕ) → form_of insn ≡ Some (Ja k) → k + place + 1 ≡ length code → Enters packet code place number header verdict → Enters packet (insn ∷ code) (length code) number header verdict
  enters_jump number header k place verdict is far e = record {
    by = λ a x ha hx.
        reaches_step packet insn code (Ja k) a x place a x verdict is
        (λ s ea ex. (record s { pc = s.pc + 1 + k }, refl, ea, ex, omega arith))
        (e.by a x ha hx);
  }

  branch_by : (test : Test) (k jt jf pass fail u v a x : ℕ) (b : Bool) → form_of insn ≡ Some (JmpK test k jt jf) → jt + pass + 1 ≡ length code → jf + fail + 1 ≡ length code → Reaches packet code pass a x u → Reaches packet code fail a x v → test_value test a k ≡ b → Reaches packet (insn ∷ code) (length code) a x (answer (Some b) u v)
  branch_by test k jt jf pass fail u v a x true is far_pass far_fail ru rv held =
      reaches_step packet insn code (JmpK test k jt jf) a x pass a x u is
      (λ s ea ex.
      let over : (if test_value test s.a k then jt else jf) ≡ jt = ap (λ n. if test_value test n k then jt else jf) ea ∙ ap (λ b. if b then jt else jf) held in
      (record s { pc = s.pc + 1 + (if test_value test s.a k then jt else jf) }, refl, ea, ex, omega arith))
      ru
  branch_by test k jt jf pass fail u v a x false is far_pass far_fail ru rv held =
      reaches_step packet insn code (JmpK test k jt jf) a x fail a x v is
      (λ s ea ex.
      let over : (if test_value test s.a k then jt else jf) ≡ jf = ap (λ n. if test_value test n k then jt else jf) ea ∙ ap (λ b. if b then jt else jf) held in
      (record s { pc = s.pc + 1 + (if test_value test s.a k then jt else jf) }, refl, ea, ex, omega arith))
      rv

  -- both targets may count on the number that was tested
  pub enters_branch : (check : Check) (header : Option ℕ) (jt jf pass fail u v : ℕ) → form_of insn ≡ Some (JmpK check.test check.value jt jf) → jt + pass + 1 ≡ length code → jf + fail + 1 ≡ length code → Enters packet code pass (Some (record { load = check.load; mask = check.mask })) header u → Enters packet code fail (Some (record { load = check.load; mask = check.mask })) header v → Enters packet (insn ∷ code) (length code) (Some (record { load = check.load; mask = check.mask })) header (answer (tested check packet) u v)
  enters_branch check header jt jf pass fail u v is far_pass far_fail eu ev = record {
    by = λ a x ha hx.
        subst (λ o. Reaches packet (insn ∷ code) (length code) a x (answer o u v)) (sym (tested_by (loaded check.load packet) check a ha))
        (branch_by check.test check.value jt jf pass fail u v a x (test_value check.test a check.value) is far_pass far_fail (eu.by a x ha hx) (ev.by a x ha hx) refl);
  }

  pub enters_mask : (load : Load) (header : Option ℕ) (mask place w : ℕ) → form_of insn ≡ Some (AluK And mask) → place + 1 ≡ length code → Enters packet code place (Some (record { load = load; mask = Some mask })) header w → Enters packet (insn ∷ code) (length code) (Some (record { load = load; mask = None })) header w
  enters_mask load header mask place w is first e = record {
    by = λ a x ha hx.
        reaches_step packet insn code (AluK And mask) a x place (bit_and a mask) x w is
        (λ s ea ex. (record s { pc = s.pc + 1; a = bit_and s.a mask }, (tt, refl), ap (λ n. bit_and n mask) ea, ex, omega arith))
        (e.by (bit_and a mask) x (masked_by (loaded load packet) mask a ha) hx);
  }

  -- a load needs nothing of the accumulator, and leaves the index register
  pub enters_at : (size : Size) (at : ℕ) (number : Option Bits) (header : Option ℕ) (place w : ℕ) → form_of insn ≡ Some (LdAbs size at) → at < 2147483648 → place + 1 ≡ length code → (loaded (At size at) packet ≡ None → w ≡ 0) → Enters packet code place (Some (record { load = At size at; mask = None })) header w → Enters packet (insn ∷ code) (length code) number header w
  enters_at size at number header place w is small first out e = record {
    by = λ a x ha hx. elim (number_or_past packet.bytes size at) [
      | inl found ↦
          reaches_step packet insn code (LdAbs size at) a x place found.0 x w is
          (λ s ea ex. (record s { pc = s.pc + 1; a = found.0 }, (small, (found.0, found.1, refl)), refl, ex, omega arith))
          (e.by found.0 x (ap (option_map (masked None)) found.2) hx)
      | inr past ↦ subst (Reaches packet (insn ∷ code) (length code) a x) (sym (out past.1)) (reaches_last packet insn code (LdAbs size at) a x 0 is (λ s ea ex. (past.0, refl)))
    ];
  }

  pub enters_length : (number : Option Bits) (header : Option ℕ) (place w : ℕ) → form_of insn ≡ Some LdLen → place + 1 ≡ length code → Enters packet code place (Some (record { load = Length; mask = None })) header w → Enters packet (insn ∷ code) (length code) number header w
  enters_length number header place w is first e = record {
    by = λ a x ha hx.
        reaches_step packet insn code LdLen a x place packet.original x w is
        (λ s ea ex. (record s { pc = s.pc + 1; a = packet.original }, refl, refl, ex, omega arith))
        (e.by packet.original x refl hx);
  }

  -- a load past the index register
  pub reaches_past : (size : Size) (at a x place w : ℕ) → form_of insn ≡ Some (LdInd size at) → place + 1 ≡ length code → (number_at packet.bytes size (x + at) ≡ None → w ≡ 0) → ((n : ℕ) → number_at packet.bytes size (x + at) ≡ Some n → Reaches packet code place n x w) → Reaches packet (insn ∷ code) (length code) a x w
  reaches_past size at a x place w is first out on =
      elim (number_or_past packet.bytes size (x + at)) [
        | inl found ↦
            reaches_step packet insn code (LdInd size at) a x place found.0 x w is
            (λ s ea ex. (record s { pc = s.pc + 1; a = found.0 }, (found.0, subst (λ n. Reads packet.bytes size (n + at) found.0) (sym ex) found.1, refl), refl, ex, omega arith))
            (on found.0 found.2)
        | inr past ↦ subst (Reaches packet (insn ∷ code) (length code) a x) (sym (out past.1)) (reaches_last packet insn code (LdInd size at) a x 0 is (λ s ea ex. (subst (λ n. ReadsPast packet.bytes size (n + at)) (sym ex) past.0, refl)))
      ]

  -- a load past a header whose length is known
  pub enters_past : (size : Size) (own at : ℕ) (number : Option Bits) (place w : ℕ) → form_of insn ≡ Some (LdInd size at) → place + 1 ≡ length code → (loaded (Past size own at) packet ≡ None → w ≡ 0) → Enters packet code place (Some (record { load = Past size own at; mask = None })) (Some own) w → Enters packet (insn ∷ code) (length code) number (Some own) w
  enters_past size own at number place w is first out e = record {
    by = λ a x ha hx.
        let same : loaded (Past size own at) packet ≡ number_at packet.bytes size (x + at) = past_at (header_length packet.bytes own) (λ past. number_at packet.bytes size (past + at)) x hx in
        reaches_past size at a x place w is first (λ none. out (same ∙ none)) (λ n found. e.by n x (ap (option_map (masked None)) (same ∙ found)) hx);
  }

  -- the index register by a header's length: the accumulator stays
  pub enters_header : (own : ℕ) (number : Option Bits) (header : Option ℕ) (place w : ℕ) → form_of insn ≡ Some (LdxMsh own) → place + 1 ≡ length code → (header_length packet.bytes own ≡ None → w ≡ 0) → Enters packet code place number (Some own) w → Enters packet (insn ∷ code) (length code) number header w
  enters_header own number header place w is first out e = record {
    by = λ a x ha hx. elim (number_or_past packet.bytes Byte own) [
      | inl found ↦
          reaches_step packet insn code (LdxMsh own) a x place a (4 * (found.0 % 16)) w is
          (λ s ea ex. (record s { pc = s.pc + 1; x = 4 * (found.0 % 16) }, (found.0, found.1, refl), ea, refl, omega arith))
          (e.by a (4 * (found.0 % 16)) ha (ap (option_map (λ first. 4 * (first % 16))) found.2))
      | inr past ↦ subst (Reaches packet (insn ∷ code) (length code) a x) (sym (out (ap (option_map (λ first. 4 * (first % 16))) past.1))) (reaches_last packet insn code (LdxMsh own) a x 0 is (λ s ea ex. (past.0, refl)))
    ];
  }

-- a load at a place that an absolute load may not have
pub enters_far : (packet : Packet) (index load : Insn) (code : List Insn) (size : Size) (at : ℕ) (number : Option Bits) (header : Option ℕ) (place w : ℕ) → form_of index ≡ Some (LdxImm 0) → form_of load ≡ Some (LdInd size at) → place + 1 ≡ length code → (loaded (At size at) packet ≡ None → w ≡ 0) → Enters packet code place (Some (record { load = At size at; mask = None })) None w → Enters packet (index ∷ load ∷ code) (length (load ∷ code)) number header w
enters_far packet index load code size at number header place w is_index is_load first out e = record {
  by = λ a x ha hx.
      reaches_step packet index (load ∷ code) (LdxImm 0) a x (length code) a 0 w is_index
      (λ s ea ex. (record s { pc = s.pc + 1; x = 0 }, refl, ea, refl, omega arith))
      (reaches_past packet load code size at a 0 place w is_load first
      (λ none. out (ap (number_at packet.bytes size) (sym (omega arith)) ∙ none))
      (λ n found. e.by n 0 (ap (option_map (masked None)) (ap (number_at packet.bytes size) (sym (omega arith)) ∙ found)) tt));
}
