-- Where the jumps of an instruction lead: to the places of its labels.
-- McCanne and Jacobson 1993, section 3.3: a jump's distance counts from the next instruction, and is never negative.
use Rattle.std.specs.Prelude.{◌≡◌, ◌↔◌, ◌≤◌, ℕ, ◌+◌, ◌==◌, if◌then◌else◌, List, Option, Some, None, Ok}
use Rattle.std.specs.Bool.{MatchBool}
use Rattle.bpf_insn.specs.declared.insn.Insn.{Insn}
use Rattle.filter_asm.specs.Program.{Draft, place_of, linked}

-- a jump at a place that passes over so many instructions leads to the label
abbrev pub LeadsToLabel : List (List ℕ × ℕ) → ℕ → List ℕ → ℕ → Type 0
LeadsToLabel places place name over = place_of places name ≡ Some (place + 1 + over)

-- and so does one arm of a conditional jump, which leads to the next instruction where it has no label
abbrev pub ArmLeads : List (List ℕ × ℕ) → ℕ → Option (List ℕ) → ℕ → Type 0
ArmLeads places place None over = over ≡ 0
ArmLeads places place (Some name) over = LeadsToLabel places place name over × (over ≤ 255)

-- the fields of a jump that doesn't test
pub record JumpLeads (places : List (List ℕ × ℕ)) (place : ℕ) (draft : Draft) (name : List ℕ) (insn : Insn) : Type 0 where
  pub code : insn.code ≡ draft.code
  pub no_jt : insn.jt ≡ 0
  pub no_jf : insn.jf ≡ 0
  pub leads : LeadsToLabel places place name insn.k

-- the fields of a conditional jump: the first label is where the test holds, or where it fails if they are exchanged
pub record ArmsLead (places : List (List ℕ × ℕ)) (place : ℕ) (draft : Draft) (insn : Insn) : Type 0 where
  pub code : insn.code ≡ draft.code
  pub k : insn.k ≡ draft.k
  pub first : ArmLeads places place draft.first (if draft.exchanged then insn.jf else insn.jt)
  pub second : ArmLeads places place draft.second (if draft.exchanged then insn.jt else insn.jf)

-- the instruction that a draft is at a place, by its first label
abbrev pub LeadsBy : List (List ℕ × ℕ) → ℕ → Draft → Option (List ℕ) → Insn → Type 0
LeadsBy places place draft None insn = insn ≡ record { code = draft.code; jt = 0; jf = 0; k = draft.k }
LeadsBy places place draft (Some name) insn = MatchBool (draft.code == 0x05) (JumpLeads places place draft name insn) (ArmsLead places place draft insn)

-- linking gives just the instructions whose jumps lead to their labels
abbrev pub LinksLead : Type 0
LinksLead = (places : List (List ℕ × ℕ)) (place : ℕ) (draft : Draft) (insn : Insn) → (linked places place draft ≡ Ok insn) ↔ LeadsBy places place draft draft.first insn
