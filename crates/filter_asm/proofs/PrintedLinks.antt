-- The jumps of a printed program, once its labels have their places.
use Rattle.std.proofs.Common.{◌≡◌, ℕ, ◌+◌, ◌-◌, ◌<◌, ◌^◌, true, false, List, Some, Ok, refl, inl, inr, arith}
use Rattle.std.specs.Prelude.{nat_le}
use Rattle.std.proofs.lemmas.Bool.Decides.{nat_tests}
use Rattle.bpf_insn.specs.Program.{JumpsTo}
use Rattle.filter_asm.specs.Program.{reach, short_reach, place_of, linked}
use Rattle.filter_asm.proofs.PrintedForms.{drafted, coded, Bounded}
use Rattle.bpf_insn.specs.declared.form.Size.TheVariants.{Word, Half, Byte}
use Rattle.bpf_insn.specs.declared.form.AluOp.TheVariants.{Add, Sub, Mul, Div, Or, And, Lsh, Rsh, Mod, Xor}
use Rattle.bpf_insn.specs.declared.form.Test.TheVariants.{Equal, Greater, GreaterOrEqual, AnyBit}
use Rattle.bpf_insn.specs.declared.form.Form.{Form}
use Rattle.bpf_insn.specs.declared.form.Form.TheVariants.{LdImm, LdAbs, LdInd, LdMem, LdLen, LdxImm, LdxMem, LdxLen, LdxMsh, St, Stx, AluK, AluX, Neg, Ja, JmpK, JmpX, RetK, RetA, Tax, Txa}
use Rattle.bpf_insn.specs.AsmText.{label}

-- the labels of the places below n have these places
abbrev pub Places : List (List ℕ × ℕ) → ℕ → Type 0
Places places n = (m : ℕ) → m < n → place_of places (label m) ≡ Some m

reach_is : (pc d : ℕ) → reach pc (Some (pc + 1 + d)) ≡ Ok d
reach_is pc d =
    let forward : nat_le (pc + 1 + d) pc ≡ false = grind (arith, nat_tests) in
    let over : pc + 1 + d - (pc + 1) ≡ d = omega arith in
    rw (forward, over) refl

short_reach_is : (pc d : ℕ) → d < 2 ^ 8 → short_reach pc (Some (pc + 1 + d)) ≡ Ok d
short_reach_is pc d short =
    let near : nat_le d 255 ≡ true = grind (arith, nat_tests) in
    rw (reach_is pc d, near) refl

pub linked_is : (places : List (List ℕ × ℕ)) (n pc line : ℕ) (form : Form) → Places places n → Bounded form → ((to : ℕ) → JumpsTo pc form to → to < n) → linked places pc (drafted line pc form) ≡ Ok (coded form)
linked_is places n pc line (LdImm k) placed bounds inside = refl
linked_is places n pc line (LdAbs Word k) placed bounds inside = refl
linked_is places n pc line (LdAbs Half k) placed bounds inside = refl
linked_is places n pc line (LdAbs Byte k) placed bounds inside = refl
linked_is places n pc line (LdInd Word k) placed bounds inside = refl
linked_is places n pc line (LdInd Half k) placed bounds inside = refl
linked_is places n pc line (LdInd Byte k) placed bounds inside = refl
linked_is places n pc line (LdMem k) placed bounds inside = refl
linked_is places n pc line LdLen placed bounds inside = refl
linked_is places n pc line (LdxImm k) placed bounds inside = refl
linked_is places n pc line (LdxMem k) placed bounds inside = refl
linked_is places n pc line LdxLen placed bounds inside = refl
linked_is places n pc line (LdxMsh k) placed bounds inside = refl
linked_is places n pc line (St k) placed bounds inside = refl
linked_is places n pc line (Stx k) placed bounds inside = refl
linked_is places n pc line (AluK Add k) placed bounds inside = refl
linked_is places n pc line (AluK Sub k) placed bounds inside = refl
linked_is places n pc line (AluK Mul k) placed bounds inside = refl
linked_is places n pc line (AluK Div k) placed bounds inside = refl
linked_is places n pc line (AluK Or k) placed bounds inside = refl
linked_is places n pc line (AluK And k) placed bounds inside = refl
linked_is places n pc line (AluK Lsh k) placed bounds inside = refl
linked_is places n pc line (AluK Rsh k) placed bounds inside = refl
linked_is places n pc line (AluK Mod k) placed bounds inside = refl
linked_is places n pc line (AluK Xor k) placed bounds inside = refl
linked_is places n pc line (AluX Add) placed bounds inside = refl
linked_is places n pc line (AluX Sub) placed bounds inside = refl
linked_is places n pc line (AluX Mul) placed bounds inside = refl
linked_is places n pc line (AluX Div) placed bounds inside = refl
linked_is places n pc line (AluX Or) placed bounds inside = refl
linked_is places n pc line (AluX And) placed bounds inside = refl
linked_is places n pc line (AluX Lsh) placed bounds inside = refl
linked_is places n pc line (AluX Rsh) placed bounds inside = refl
linked_is places n pc line (AluX Mod) placed bounds inside = refl
linked_is places n pc line (AluX Xor) placed bounds inside = refl
linked_is places n pc line Neg placed bounds inside = refl
linked_is places n pc line (Ja k) placed bounds inside = rw (placed (pc + 1 + k) (inside (pc + 1 + k) refl), reach_is pc k) refl
linked_is places n pc line (JmpK Equal k jt jf) placed bounds inside = rw (placed (pc + 1 + jt) (inside (pc + 1 + jt) (inl refl)), short_reach_is pc jt bounds.jt, placed (pc + 1 + jf) (inside (pc + 1 + jf) (inr refl)), short_reach_is pc jf bounds.jf) refl
linked_is places n pc line (JmpK Greater k jt jf) placed bounds inside = rw (placed (pc + 1 + jt) (inside (pc + 1 + jt) (inl refl)), short_reach_is pc jt bounds.jt, placed (pc + 1 + jf) (inside (pc + 1 + jf) (inr refl)), short_reach_is pc jf bounds.jf) refl
linked_is places n pc line (JmpK GreaterOrEqual k jt jf) placed bounds inside = rw (placed (pc + 1 + jt) (inside (pc + 1 + jt) (inl refl)), short_reach_is pc jt bounds.jt, placed (pc + 1 + jf) (inside (pc + 1 + jf) (inr refl)), short_reach_is pc jf bounds.jf) refl
linked_is places n pc line (JmpK AnyBit k jt jf) placed bounds inside = rw (placed (pc + 1 + jt) (inside (pc + 1 + jt) (inl refl)), short_reach_is pc jt bounds.jt, placed (pc + 1 + jf) (inside (pc + 1 + jf) (inr refl)), short_reach_is pc jf bounds.jf) refl
linked_is places n pc line (JmpX Equal jt jf) placed bounds inside = rw (placed (pc + 1 + jt) (inside (pc + 1 + jt) (inl refl)), short_reach_is pc jt bounds.jt, placed (pc + 1 + jf) (inside (pc + 1 + jf) (inr refl)), short_reach_is pc jf bounds.jf) refl
linked_is places n pc line (JmpX Greater jt jf) placed bounds inside = rw (placed (pc + 1 + jt) (inside (pc + 1 + jt) (inl refl)), short_reach_is pc jt bounds.jt, placed (pc + 1 + jf) (inside (pc + 1 + jf) (inr refl)), short_reach_is pc jf bounds.jf) refl
linked_is places n pc line (JmpX GreaterOrEqual jt jf) placed bounds inside = rw (placed (pc + 1 + jt) (inside (pc + 1 + jt) (inl refl)), short_reach_is pc jt bounds.jt, placed (pc + 1 + jf) (inside (pc + 1 + jf) (inr refl)), short_reach_is pc jf bounds.jf) refl
linked_is places n pc line (JmpX AnyBit jt jf) placed bounds inside = rw (placed (pc + 1 + jt) (inside (pc + 1 + jt) (inl refl)), short_reach_is pc jt bounds.jt, placed (pc + 1 + jf) (inside (pc + 1 + jf) (inr refl)), short_reach_is pc jf bounds.jf) refl
linked_is places n pc line (RetK k) placed bounds inside = refl
linked_is places n pc line RetA placed bounds inside = refl
linked_is places n pc line Tax placed bounds inside = refl
linked_is places n pc line Txa placed bounds inside = refl
