-- The assembler text of a program, a labelled line for each instruction, in the syntax of Linux's bpf_asm
-- (Linux Documentation/networking/filter, "BPF engine and instruction set").
use Rattle.std.specs.Prelude.{ℕ, ◌+◌, ◌<◌, ◌≤◌, List, [], ◌∷◌, ◌++◌, length, codes}
use Rattle.std.specs.Option.{option_map_or}
use Rattle.std.specs.List.{flat_map, enumerate_from}
use Rattle.std.specs.Fmt.{decimal}
use Rattle.bpf_insn.specs.declared.insn.TheConstants.{MAX_INSNS}
use Rattle.bpf_insn.specs.declared.insn.Insn.{Insn}
use Rattle.bpf_insn.specs.declared.form.Size.{Size}
use Rattle.bpf_insn.specs.declared.form.Size.TheVariants.{Word, Half, Byte}
use Rattle.bpf_insn.specs.declared.form.AluOp.{AluOp}
use Rattle.bpf_insn.specs.declared.form.AluOp.TheVariants.{Add, Sub, Mul, Div, Or, And, Lsh, Rsh, Mod, Xor}
use Rattle.bpf_insn.specs.declared.form.Test.{Test}
use Rattle.bpf_insn.specs.declared.form.Test.TheVariants.{Equal, Greater, GreaterOrEqual, AnyBit}
use Rattle.bpf_insn.specs.declared.form.Form.{Form}
use Rattle.bpf_insn.specs.declared.form.Form.TheVariants.{LdImm, LdAbs, LdInd, LdMem, LdLen, LdxImm, LdxMem, LdxLen, LdxMsh, St, Stx, AluK, AluX, Neg, Ja, JmpK, JmpX, RetK, RetA, Tax, Txa}
use Rattle.bpf_insn.specs.Program.{FormAt, JumpsOut}
use Rattle.bpf_insn.specs.Table.{form_of}

-- the mnemonics of the loads by their sizes
abbrev pub load_word : Size → List ℕ
load_word Word = codes "ld"
load_word Half = codes "ldh"
load_word Byte = codes "ldb"

-- the mnemonics of the operations
abbrev pub alu_word : AluOp → List ℕ
alu_word Add = codes "add"
alu_word Sub = codes "sub"
alu_word Mul = codes "mul"
alu_word Div = codes "div"
alu_word Or = codes "or"
alu_word And = codes "and"
alu_word Lsh = codes "lsh"
alu_word Rsh = codes "rsh"
alu_word Mod = codes "mod"
alu_word Xor = codes "xor"

-- the mnemonics of the conditional jumps by their tests
abbrev pub test_word : Test → List ℕ
test_word Equal = codes "jeq"
test_word Greater = codes "jgt"
test_word GreaterOrEqual = codes "jge"
test_word AnyBit = codes "jset"

-- the label of a place
abbrev pub label : ℕ → List ℕ
label pc = codes "l" ++ decimal pc

-- the two targets of a conditional jump at a place
abbrev pub arms : ℕ → ℕ → ℕ → List ℕ
arms pc jt jf = label (pc + 1 + jt) ++ codes ", " ++ label (pc + 1 + jf)

-- an instruction of this form at this place
abbrev pub printed : ℕ → Form → List ℕ
printed pc (LdImm k) = codes "ldi #" ++ decimal k
printed pc (LdAbs size k) = load_word size ++ codes " [" ++ decimal k ++ codes "]"
printed pc (LdInd size k) = load_word size ++ codes " [x + " ++ decimal k ++ codes "]"
printed pc (LdMem k) = codes "ld M[" ++ decimal k ++ codes "]"
printed pc LdLen = codes "ld #len"
printed pc (LdxImm k) = codes "ldxi #" ++ decimal k
printed pc (LdxMem k) = codes "ldx M[" ++ decimal k ++ codes "]"
printed pc LdxLen = codes "ldx #len"
printed pc (LdxMsh k) = codes "ldxb 4*([" ++ decimal k ++ codes "]&0xf)"
printed pc (St k) = codes "st M[" ++ decimal k ++ codes "]"
printed pc (Stx k) = codes "stx M[" ++ decimal k ++ codes "]"
printed pc (AluK op k) = alu_word op ++ codes " #" ++ decimal k
printed pc (AluX op) = alu_word op ++ codes " x"
printed pc Neg = codes "neg"
printed pc (Ja k) = codes "jmp " ++ label (pc + 1 + k)
printed pc (JmpK test k jt jf) = test_word test ++ codes " #" ++ decimal k ++ codes ", " ++ arms pc jt jf
printed pc (JmpX test jt jf) = test_word test ++ codes " x, " ++ arms pc jt jf
printed pc (RetK k) = codes "ret #" ++ decimal k
printed pc RetA = codes "ret a"
printed pc Tax = codes "tax"
printed pc Txa = codes "txa"

-- the line of an instruction of this form at this place: its label, the instruction and a line feed
abbrev pub asm_line : ℕ → Form → List ℕ
asm_line pc form = label pc ++ codes ": " ++ printed pc form ++ 10 ∷ []

-- a program's text, a line for each instruction that has a form
abbrev pub asm_text : List Insn → List ℕ
asm_text program = flat_map (λ at. option_map_or (asm_line at.0) (form_of at.1) []) (enumerate_from 0 program)

-- the instruction at a place has a form, and is no jump that leads outside the program
abbrev pub PrintsAt : List Insn → ℕ → Type 0
PrintsAt program pc = ((form : Form) × FormAt program pc form) × (JumpsOut program pc → ⊥)

-- a program that has a text: each instruction has one, and each label that it names stands at a line
pub record IsPrintable (program : List Insn) : Type 0 where
  pub short : length program ≤ MAX_INSNS
  pub each : (pc : ℕ) → pc < length program → PrintsAt program pc
