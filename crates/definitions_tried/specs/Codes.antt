-- The codes of instructions by their parts, and the two ways to write one, as in bpf(4) of FreeBSD and Linux' bpf_common.h.
use Rattle.std.specs.Prelude.{ℕ}
use Rattle.bpf_insn.specs.declared.insn.Insn.{Insn}

abbrev pub BPF_LD : ℕ
BPF_LD = 0x00

abbrev pub BPF_LDX : ℕ
BPF_LDX = 0x01

abbrev pub BPF_ST : ℕ
BPF_ST = 0x02

abbrev pub BPF_STX : ℕ
BPF_STX = 0x03

abbrev pub BPF_ALU : ℕ
BPF_ALU = 0x04

abbrev pub BPF_JMP : ℕ
BPF_JMP = 0x05

abbrev pub BPF_RET : ℕ
BPF_RET = 0x06

abbrev pub BPF_MISC : ℕ
BPF_MISC = 0x07

abbrev pub BPF_W : ℕ
BPF_W = 0x00

abbrev pub BPF_H : ℕ
BPF_H = 0x08

abbrev pub BPF_B : ℕ
BPF_B = 0x10

abbrev pub BPF_IMM : ℕ
BPF_IMM = 0x00

abbrev pub BPF_ABS : ℕ
BPF_ABS = 0x20

abbrev pub BPF_IND : ℕ
BPF_IND = 0x40

abbrev pub BPF_MEM : ℕ
BPF_MEM = 0x60

abbrev pub BPF_LEN : ℕ
BPF_LEN = 0x80

abbrev pub BPF_MSH : ℕ
BPF_MSH = 0xa0

abbrev pub BPF_ADD : ℕ
BPF_ADD = 0x00

abbrev pub BPF_SUB : ℕ
BPF_SUB = 0x10

abbrev pub BPF_MUL : ℕ
BPF_MUL = 0x20

abbrev pub BPF_DIV : ℕ
BPF_DIV = 0x30

abbrev pub BPF_OR : ℕ
BPF_OR = 0x40

abbrev pub BPF_AND : ℕ
BPF_AND = 0x50

abbrev pub BPF_LSH : ℕ
BPF_LSH = 0x60

abbrev pub BPF_RSH : ℕ
BPF_RSH = 0x70

abbrev pub BPF_NEG : ℕ
BPF_NEG = 0x80

abbrev pub BPF_MOD : ℕ
BPF_MOD = 0x90

abbrev pub BPF_XOR : ℕ
BPF_XOR = 0xa0

abbrev pub BPF_JA : ℕ
BPF_JA = 0x00

abbrev pub BPF_JEQ : ℕ
BPF_JEQ = 0x10

abbrev pub BPF_JGT : ℕ
BPF_JGT = 0x20

abbrev pub BPF_JGE : ℕ
BPF_JGE = 0x30

abbrev pub BPF_JSET : ℕ
BPF_JSET = 0x40

abbrev pub BPF_K : ℕ
BPF_K = 0x00

abbrev pub BPF_X : ℕ
BPF_X = 0x08

abbrev pub BPF_A : ℕ
BPF_A = 0x10

abbrev pub BPF_TAX : ℕ
BPF_TAX = 0x00

abbrev pub BPF_TXA : ℕ
BPF_TXA = 0x80

abbrev pub BPF_STMT : ℕ → ℕ → Insn
BPF_STMT code k = record { code = code; jt = 0; jf = 0; k = k }

abbrev pub BPF_JUMP : ℕ → ℕ → ℕ → ℕ → Insn
BPF_JUMP code k jt jf = record { code = code; jt = jt; jf = jf; k = k }
