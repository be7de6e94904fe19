-- What an instruction that is printed says, by its form: its tokens, and its fields.
use Rattle.std.proofs.Common.{ℕ, false, ◌+◌, ◌<◌, ◌^◌, List, [], ◌∷◌}
use Rattle.std.specs.Prelude.{codes, Option, Some, None}
use Rattle.std.specs.Fmt.{decimal}
use Rattle.filter_asm.specs.Program.{Draft}
use Rattle.bpf_insn.specs.declared.insn.Insn.{Insn}
use Rattle.bpf_insn.specs.declared.form.Size.TheVariants.{Word, Half, Byte}
use Rattle.bpf_insn.specs.declared.form.AluOp.TheVariants.{Add, Sub, Mul, Div, Or, And, Lsh, Rsh, Mod, Xor}
use Rattle.bpf_insn.specs.declared.form.Test.TheVariants.{Equal, Greater, GreaterOrEqual, AnyBit}
use Rattle.bpf_insn.specs.declared.form.Form.{Form}
use Rattle.bpf_insn.specs.declared.form.Form.TheVariants.{LdImm, LdAbs, LdInd, LdMem, LdLen, LdxImm, LdxMem, LdxLen, LdxMsh, St, Stx, AluK, AluX, Neg, Ja, JmpK, JmpX, RetK, RetA, Tax, Txa}
use Rattle.bpf_insn.specs.AsmText.{load_word, alu_word, test_word, label}

-- its mnemonic
abbrev pub word_of : Form → List ℕ
word_of (LdImm k) = codes "ldi"
word_of (LdAbs size k) = load_word size
word_of (LdInd size k) = load_word size
word_of (LdMem k) = codes "ld"
word_of LdLen = codes "ld"
word_of (LdxImm k) = codes "ldxi"
word_of (LdxMem k) = codes "ldx"
word_of LdxLen = codes "ldx"
word_of (LdxMsh k) = codes "ldxb"
word_of (St k) = codes "st"
word_of (Stx k) = codes "stx"
word_of (AluK op k) = alu_word op
word_of (AluX op) = alu_word op
word_of Neg = codes "neg"
word_of (Ja k) = codes "jmp"
word_of (JmpK test k jt jf) = test_word test
word_of (JmpX test jt jf) = test_word test
word_of (RetK k) = codes "ret"
word_of RetA = codes "ret"
word_of Tax = codes "tax"
word_of Txa = codes "txa"

-- and its operands, at a place
abbrev pub operands_of : ℕ → Form → List (List ℕ)
operands_of pc (LdImm k) = codes "#" ∷ decimal k ∷ []
operands_of pc (LdAbs size k) = codes "[" ∷ decimal k ∷ codes "]" ∷ []
operands_of pc (LdInd size k) = codes "[" ∷ codes "x" ∷ codes "+" ∷ decimal k ∷ codes "]" ∷ []
operands_of pc (LdMem k) = codes "M" ∷ codes "[" ∷ decimal k ∷ codes "]" ∷ []
operands_of pc LdLen = codes "#" ∷ codes "len" ∷ []
operands_of pc (LdxImm k) = codes "#" ∷ decimal k ∷ []
operands_of pc (LdxMem k) = codes "M" ∷ codes "[" ∷ decimal k ∷ codes "]" ∷ []
operands_of pc LdxLen = codes "#" ∷ codes "len" ∷ []
operands_of pc (LdxMsh k) = codes "4" ∷ codes "*" ∷ codes "(" ∷ codes "[" ∷ decimal k ∷ codes "]" ∷ codes "&" ∷ codes "0xf" ∷ codes ")" ∷ []
operands_of pc (St k) = codes "M" ∷ codes "[" ∷ decimal k ∷ codes "]" ∷ []
operands_of pc (Stx k) = codes "M" ∷ codes "[" ∷ decimal k ∷ codes "]" ∷ []
operands_of pc (AluK op k) = codes "#" ∷ decimal k ∷ []
operands_of pc (AluX op) = codes "x" ∷ []
operands_of pc Neg = []
operands_of pc (Ja k) = label (pc + 1 + k) ∷ []
operands_of pc (JmpK test k jt jf) = codes "#" ∷ decimal k ∷ codes "," ∷ label (pc + 1 + jt) ∷ codes "," ∷ label (pc + 1 + jf) ∷ []
operands_of pc (JmpX test jt jf) = codes "x" ∷ codes "," ∷ label (pc + 1 + jt) ∷ codes "," ∷ label (pc + 1 + jf) ∷ []
operands_of pc (RetK k) = codes "#" ∷ decimal k ∷ []
operands_of pc RetA = codes "a" ∷ []
operands_of pc Tax = []
operands_of pc Txa = []

-- its code
abbrev pub code_of : Form → ℕ
code_of (LdImm k) = 0x00
code_of (LdAbs Word k) = 0x20
code_of (LdAbs Half k) = 0x28
code_of (LdAbs Byte k) = 0x30
code_of (LdInd Word k) = 0x40
code_of (LdInd Half k) = 0x48
code_of (LdInd Byte k) = 0x50
code_of (LdMem k) = 0x60
code_of LdLen = 0x80
code_of (LdxImm k) = 0x01
code_of (LdxMem k) = 0x61
code_of LdxLen = 0x81
code_of (LdxMsh k) = 0xb1
code_of (St k) = 0x02
code_of (Stx k) = 0x03
code_of (AluK Add k) = 0x04
code_of (AluK Sub k) = 0x14
code_of (AluK Mul k) = 0x24
code_of (AluK Div k) = 0x34
code_of (AluK Or k) = 0x44
code_of (AluK And k) = 0x54
code_of (AluK Lsh k) = 0x64
code_of (AluK Rsh k) = 0x74
code_of (AluK Mod k) = 0x94
code_of (AluK Xor k) = 0xa4
code_of (AluX Add) = 0x0c
code_of (AluX Sub) = 0x1c
code_of (AluX Mul) = 0x2c
code_of (AluX Div) = 0x3c
code_of (AluX Or) = 0x4c
code_of (AluX And) = 0x5c
code_of (AluX Lsh) = 0x6c
code_of (AluX Rsh) = 0x7c
code_of (AluX Mod) = 0x9c
code_of (AluX Xor) = 0xac
code_of Neg = 0x84
code_of (Ja k) = 0x05
code_of (JmpK Equal k jt jf) = 0x15
code_of (JmpK Greater k jt jf) = 0x25
code_of (JmpK GreaterOrEqual k jt jf) = 0x35
code_of (JmpK AnyBit k jt jf) = 0x45
code_of (JmpX Equal jt jf) = 0x1d
code_of (JmpX Greater jt jf) = 0x2d
code_of (JmpX GreaterOrEqual jt jf) = 0x3d
code_of (JmpX AnyBit jt jf) = 0x4d
code_of (RetK k) = 0x06
code_of RetA = 0x16
code_of Tax = 0x07
code_of Txa = 0x87

-- its number, or a jump's distance
abbrev pub k_of : Form → ℕ
k_of (LdImm k) = k
k_of (LdAbs size k) = k
k_of (LdInd size k) = k
k_of (LdMem k) = k
k_of LdLen = 0
k_of (LdxImm k) = k
k_of (LdxMem k) = k
k_of LdxLen = 0
k_of (LdxMsh k) = k
k_of (St k) = k
k_of (Stx k) = k
k_of (AluK op k) = k
k_of (AluX op) = 0
k_of Neg = 0
k_of (Ja k) = k
k_of (JmpK test k jt jf) = k
k_of (JmpX test jt jf) = 0
k_of (RetK k) = k
k_of RetA = 0
k_of Tax = 0
k_of Txa = 0

-- the distances of a conditional jump
abbrev pub jt_of : Form → ℕ
jt_of (JmpK test k jt jf) = jt
jt_of (JmpX test jt jf) = jt
jt_of _ = 0

abbrev pub jf_of : Form → ℕ
jf_of (JmpK test k jt jf) = jf
jf_of (JmpX test jt jf) = jf
jf_of _ = 0

-- the fields are in range
pub record Bounded (form : Form) : Type 0 where
  pub k : k_of form < 2 ^ 32
  pub jt : jt_of form < 2 ^ 8
  pub jf : jf_of form < 2 ^ 8

-- the instruction of a form
abbrev pub coded : Form → Insn
coded form = record { code = code_of form; jt = jt_of form; jf = jf_of form; k = k_of form }

-- the number that is written, and the labels
abbrev pub written : Form → ℕ
written (Ja k) = 0
written (LdImm k) = k
written (LdAbs size k) = k
written (LdInd size k) = k
written (LdMem k) = k
written LdLen = 0
written (LdxImm k) = k
written (LdxMem k) = k
written LdxLen = 0
written (LdxMsh k) = k
written (St k) = k
written (Stx k) = k
written (AluK op k) = k
written (AluX op) = 0
written Neg = 0
written (JmpK test k jt jf) = k
written (JmpX test jt jf) = 0
written (RetK k) = k
written RetA = 0
written Tax = 0
written Txa = 0

abbrev pub first_label : ℕ → Form → Option (List ℕ)
first_label pc (Ja k) = Some (label (pc + 1 + k))
first_label pc (JmpK test k jt jf) = Some (label (pc + 1 + jt))
first_label pc (JmpX test jt jf) = Some (label (pc + 1 + jt))
first_label pc _ = None

abbrev pub second_label : ℕ → Form → Option (List ℕ)
second_label pc (JmpK test k jt jf) = Some (label (pc + 1 + jf))
second_label pc (JmpX test jt jf) = Some (label (pc + 1 + jf))
second_label pc _ = None

abbrev pub drafted : ℕ → ℕ → Form → Draft
drafted line pc form = record { line = line; code = code_of form; k = written form; first = first_label pc form; second = second_label pc form; exchanged = false }
