-- When an instruction of a form breaks no rule, and an empty memory.
use Rattle.std.proofs.Common.{◌≡◌, ℕ, ◌+◌, ◌<◌, ◌≤◌, List, length, Some, inl, inr, arith, refl, subst}
use Rattle.std.specs.FinMap.{get, empty, get-empty}
use Rattle.std.specs.Ordering.{nat_cmp}
use Rattle.bpf_insn.specs.declared.insn.Insn.{Insn}
use Rattle.bpf_insn.specs.declared.form.Form.{Form}
use Rattle.bpf_insn.specs.declared.form.Form.TheVariants.{LdAbs, LdMem, LdxMem, St, Stx, AluK, Ja, JmpK, JmpX}
use Rattle.bpf_insn.specs.declared.form.AluOp.TheVariants.{Div, Lsh, Rsh, Mod}
use Rattle.bpf_insn.specs.Machine.{IsOperand}
use Rattle.bpf_insn.specs.Program.{FormAt, JumpsTo}
use Rattle.bpf_insn.proofs.Places.{FormAt-same}
use Rattle.filter_verify.specs.declared.rules.Refusal.TheVariants.{Empty, TooLong, BadCode, ZeroDivisor, BadShift, BadWord, JumpOut, Ancillary, NoReturn, Unwritten, NoMemory}
use Rattle.filter_verify.specs.Rules.{IsFine}

-- the constants of an instruction of this form are in range, and its jumps lead to places inside
abbrev pub Keeps : List Insn → ℕ → Form → Type 0
Keeps program pc (LdAbs size k) = k < 2147483648
Keeps program pc (LdMem k) = k < 16
Keeps program pc (LdxMem k) = k < 16
Keeps program pc (St k) = k < 16
Keeps program pc (Stx k) = k < 16
Keeps program pc (AluK op k) = IsOperand op k
Keeps program pc (Ja k) = pc + 1 + k < length program
Keeps program pc (JmpK test k jt jf) = (pc + 1 + jt < length program) × (pc + 1 + jf < length program)
Keeps program pc (JmpX test jt jf) = (pc + 1 + jt < length program) × (pc + 1 + jf < length program)
Keeps program pc _ = Unit {0}

leads_inside : (program : List Insn) (pc to : ℕ) (form : Form) → Keeps program pc form → JumpsTo pc form to → to < length program
leads_inside program pc to (Ja k) keeps e = omega arith
leads_inside program pc to (JmpK test k jt jf) keeps e = let a = keeps.0 in let b = keeps.1 in elim e [ inl at ↦ omega arith | inr at ↦ omega arith ]
leads_inside program pc to (JmpX test jt jf) keeps e = let a = keeps.0 in let b = keeps.1 in elim e [ inl at ↦ omega arith | inr at ↦ omega arith ]
leads_inside program pc to _ keeps e = absurd e

pub fine : (program : List Insn) (pc : ℕ) (form : Form) → FormAt program pc form → Keeps program pc form → IsFine program pc
fine program pc form at keeps refusal = by refusal
  where
    other : (f : Form) → FormAt program pc f → Keeps program pc f
    other f there = subst (Keeps program pc) (FormAt-same program pc form f at there) keeps

    by : IsFine program pc
    by (BadCode q) b = let none = b.1 in cc
    by (ZeroDivisor q) b = elim b.1 [ inl d ↦ other (AluK Div 0) d refl | inr m ↦ other (AluK Mod 0) m refl ]
    by (BadShift q) b = let big = b.1.1 in elim b.1.2 [
      | inl l ↦ let small = other (AluK Lsh b.1.0) l in absurd (omega arith)
      | inr r ↦ let small = other (AluK Rsh b.1.0) r in absurd (omega arith)
    ]
    by (BadWord q) b = let big = b.1.1 in elim b.1.2 [
      | inl loads ↦ elim loads [
        | inl a ↦ let small = other (LdMem b.1.0) a in absurd (omega arith)
        | inr x ↦ let small = other (LdxMem b.1.0) x in absurd (omega arith)
      ]
      | inr stores ↦ elim stores [
        | inl a ↦ let small = other (St b.1.0) a in absurd (omega arith)
        | inr x ↦ let small = other (Stx b.1.0) x in absurd (omega arith)
      ]
    ]
    by (JumpOut q) b = let out = b.1.4 in let inside = leads_inside program pc b.1.1 b.1.0 (other b.1.0 b.1.2) b.1.3 in absurd (omega arith)
    by (Ancillary q) b = let big = b.1.2 in let small = other (LdAbs b.1.0 b.1.1) b.1.3 in absurd (omega arith)
    by Empty b = b
    by TooLong b = b
    by NoReturn b = b
    by (Unwritten q word path) b = b
    by NoMemory b = b

-- a number isn't a greater one
pub apart : (m n : ℕ) → m < n → m ≡ n → ⊥
apart m n below e = omega arith

pub not_below : (m n : ℕ) → n ≤ m → m < n → ⊥
not_below m n from below = omega arith

-- no word is written in an empty memory
pub empty-lacks : (k v : ℕ) → get (empty {K = ℕ} {X = ℕ} {R = nat_cmp}) k ≡ Some v → ⊥
empty-lacks k v there = let none = get-empty {X = ℕ} nat_cmp k in cc
