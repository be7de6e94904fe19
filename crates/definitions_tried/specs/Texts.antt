-- The filter for ARP in the texts in which filters are passed around.
use Rattle.std.specs.Prelude.{ℕ, ◌+◌, List, [], ◌∷◌, ◌++◌, codes}
use Rattle.bpf_insn.specs.declared.insn.Insn.{Insn}
use Rattle.filter_asm.specs.declared.fault.AsmFaultKind.{AsmFaultKind}
use Rattle.filter_asm.specs.Program.{Fault, Line}
use Rattle.definitions_tried.specs.Codes.{BPF_A, BPF_ABS, BPF_ADD, BPF_ALU, BPF_AND, BPF_B, BPF_DIV, BPF_H, BPF_IMM, BPF_IND, BPF_JA, BPF_JEQ, BPF_JGE, BPF_JGT, BPF_JMP, BPF_JSET, BPF_JUMP, BPF_K, BPF_LD, BPF_LDX, BPF_LEN, BPF_LSH, BPF_MEM, BPF_MISC, BPF_MOD, BPF_MSH, BPF_MUL, BPF_NEG, BPF_OR, BPF_RET, BPF_RSH, BPF_ST, BPF_STMT, BPF_STX, BPF_SUB, BPF_TAX, BPF_TXA, BPF_W, BPF_X, BPF_XOR}
use Rattle.definitions_tried.specs.Filters.{insn}

-- Linux, Documentation/networking/filter, "BPF engine and instruction set": the example "ARP packets"
abbrev pub arp_assembler : List ℕ
arp_assembler = codes "ldh [12]" ++ 10 ∷ codes "jne #0x806, drop" ++ 10 ∷ codes "ret #-1" ++ 10 ∷ codes "drop: ret #0" ++ 10 ∷ []

-- and what `bpf_asm` makes of it there
abbrev pub arp_numbers : List ℕ
arp_numbers = codes "4,40 0 0 12,21 0 1 2054,6 0 0 4294967295,6 0 0 0,"

abbrev pub arp_all : List Insn
arp_all = insn 0x28 0 0 0x0c ∷ insn 0x15 0 1 0x806 ∷ insn 6 0 0 0xffffffff ∷ insn 6 0 0 0 ∷ []

-- what `tcpdump -ddd` writes (tcpdump(1)), with LF
abbrev pub arp_lines : List ℕ
arp_lines = codes "4" ++ 10 ∷ codes "40 0 0 12" ++ 10 ∷ codes "21 0 1 2054" ++ 10 ∷ codes "6 0 0 4294967295" ++ 10 ∷ codes "6 0 0 0" ++ 10 ∷ []

-- a line an instruction, each with its label (Linux, the same page: "ldh [12]", "jeq #k, l1, l2", "ret #k")
abbrev pub arp_labelled : List ℕ
arp_labelled = codes "l0: ldh [12]" ++ 10 ∷ codes "l1: jeq #2054, l2, l3" ++ 10 ∷ codes "l2: ret #4294967295" ++ 10 ∷ codes "l3: ret #0" ++ 10 ∷ []

-- the tokens of a line without a label
abbrev pub unlabelled : List (List ℕ) → Line
unlabelled body = record { labels = []; body = body }

-- a test of A < 7 (a test of A >= 7 with its targets exchanged), one of A > 7, and a jump (Linux, the same page: its
-- table of instructions)
abbrev pub jumping_lines : List Line
jumping_lines =
    unlabelled (codes "jlt" ∷ codes "#" ∷ codes "7" ∷ codes "," ∷ codes "out" ∷ [])
    ∷ unlabelled (codes "jgt" ∷ codes "#" ∷ codes "7" ∷ codes "," ∷ codes "out" ∷ [])
    ∷ unlabelled (codes "ja" ∷ codes "out" ∷ [])
    ∷ unlabelled (codes "ret" ∷ codes "#" ∷ codes "1" ∷ [])
    ∷ record { labels = codes "out" ∷ []; body = codes "ret" ∷ codes "#" ∷ codes "0" ∷ [] }
    ∷ []

abbrev pub jumping_insns : List Insn
jumping_insns = insn 0x35 0 3 7 ∷ insn 0x25 2 0 7 ∷ insn 0x05 0 0 1 ∷ insn 6 0 0 1 ∷ insn 6 0 0 0 ∷ []

-- what moves a value, each mnemonic with each kind of operand (Linux, the same page: its tables of instructions and
-- of addressing modes) and its code by its parts (Linux, bpf_common.h)
abbrev pub moving_lines : List Line
moving_lines =
    unlabelled (codes "ld" ∷ codes "#" ∷ codes "1" ∷ [])
    ∷ unlabelled (codes "ld" ∷ codes "[" ∷ codes "2" ∷ codes "]" ∷ [])
    ∷ unlabelled (codes "ld" ∷ codes "[" ∷ codes "x" ∷ codes "+" ∷ codes "3" ∷ codes "]" ∷ [])
    ∷ unlabelled (codes "ld" ∷ codes "M" ∷ codes "[" ∷ codes "4" ∷ codes "]" ∷ [])
    ∷ unlabelled (codes "ld" ∷ codes "#" ∷ codes "len" ∷ [])
    ∷ unlabelled (codes "ldi" ∷ codes "#" ∷ codes "5" ∷ [])
    ∷ unlabelled (codes "ldh" ∷ codes "[" ∷ codes "6" ∷ codes "]" ∷ [])
    ∷ unlabelled (codes "ldh" ∷ codes "[" ∷ codes "x" ∷ codes "+" ∷ codes "7" ∷ codes "]" ∷ [])
    ∷ unlabelled (codes "ldb" ∷ codes "[" ∷ codes "8" ∷ codes "]" ∷ [])
    ∷ unlabelled (codes "ldb" ∷ codes "[" ∷ codes "x" ∷ codes "+" ∷ codes "9" ∷ codes "]" ∷ [])
    ∷ unlabelled (codes "ldx" ∷ codes "#" ∷ codes "10" ∷ [])
    ∷ unlabelled (codes "ldx" ∷ codes "M" ∷ codes "[" ∷ codes "11" ∷ codes "]" ∷ [])
    ∷ unlabelled (codes "ldx" ∷ codes "#" ∷ codes "len" ∷ [])
    ∷ unlabelled (codes "ldx" ∷ codes "4" ∷ codes "*" ∷ codes "(" ∷ codes "[" ∷ codes "12" ∷ codes "]" ∷ codes "&" ∷ codes "0xf" ∷ codes ")" ∷ [])
    ∷ unlabelled (codes "ldxi" ∷ codes "#" ∷ codes "13" ∷ [])
    ∷ unlabelled (codes "ldxb" ∷ codes "4" ∷ codes "*" ∷ codes "(" ∷ codes "[" ∷ codes "14" ∷ codes "]" ∷ codes "&" ∷ codes "0xf" ∷ codes ")" ∷ [])
    ∷ unlabelled (codes "st" ∷ codes "M" ∷ codes "[" ∷ codes "15" ∷ codes "]" ∷ [])
    ∷ unlabelled (codes "stx" ∷ codes "M" ∷ codes "[" ∷ codes "0" ∷ codes "]" ∷ [])
    ∷ unlabelled (codes "tax" ∷ [])
    ∷ unlabelled (codes "txa" ∷ [])
    ∷ unlabelled (codes "ret" ∷ codes "#" ∷ codes "16" ∷ [])
    ∷ unlabelled (codes "ret" ∷ codes "a" ∷ [])
    ∷ []

abbrev pub moving_insns : List Insn
moving_insns =
    BPF_STMT (BPF_LD + BPF_IMM) 1
    ∷ BPF_STMT (BPF_LD + BPF_W + BPF_ABS) 2
    ∷ BPF_STMT (BPF_LD + BPF_W + BPF_IND) 3
    ∷ BPF_STMT (BPF_LD + BPF_MEM) 4
    ∷ BPF_STMT (BPF_LD + BPF_W + BPF_LEN) 0
    ∷ BPF_STMT (BPF_LD + BPF_IMM) 5
    ∷ BPF_STMT (BPF_LD + BPF_H + BPF_ABS) 6
    ∷ BPF_STMT (BPF_LD + BPF_H + BPF_IND) 7
    ∷ BPF_STMT (BPF_LD + BPF_B + BPF_ABS) 8
    ∷ BPF_STMT (BPF_LD + BPF_B + BPF_IND) 9
    ∷ BPF_STMT (BPF_LDX + BPF_IMM) 10
    ∷ BPF_STMT (BPF_LDX + BPF_MEM) 11
    ∷ BPF_STMT (BPF_LDX + BPF_W + BPF_LEN) 0
    ∷ BPF_STMT (BPF_LDX + BPF_B + BPF_MSH) 12
    ∷ BPF_STMT (BPF_LDX + BPF_IMM) 13
    ∷ BPF_STMT (BPF_LDX + BPF_B + BPF_MSH) 14
    ∷ BPF_STMT BPF_ST 15
    ∷ BPF_STMT BPF_STX 0
    ∷ BPF_STMT (BPF_MISC + BPF_TAX) 0
    ∷ BPF_STMT (BPF_MISC + BPF_TXA) 0
    ∷ BPF_STMT (BPF_RET + BPF_K) 16
    ∷ BPF_STMT (BPF_RET + BPF_A) 0
    ∷ []

-- what computes (Linux, the same page)
abbrev pub computing_lines : List Line
computing_lines =
    unlabelled (codes "add" ∷ codes "#" ∷ codes "1" ∷ [])
    ∷ unlabelled (codes "add" ∷ codes "x" ∷ [])
    ∷ unlabelled (codes "sub" ∷ codes "#" ∷ codes "2" ∷ [])
    ∷ unlabelled (codes "sub" ∷ codes "x" ∷ [])
    ∷ unlabelled (codes "mul" ∷ codes "#" ∷ codes "3" ∷ [])
    ∷ unlabelled (codes "mul" ∷ codes "x" ∷ [])
    ∷ unlabelled (codes "div" ∷ codes "#" ∷ codes "4" ∷ [])
    ∷ unlabelled (codes "div" ∷ codes "x" ∷ [])
    ∷ unlabelled (codes "mod" ∷ codes "#" ∷ codes "5" ∷ [])
    ∷ unlabelled (codes "mod" ∷ codes "x" ∷ [])
    ∷ unlabelled (codes "and" ∷ codes "#" ∷ codes "6" ∷ [])
    ∷ unlabelled (codes "and" ∷ codes "x" ∷ [])
    ∷ unlabelled (codes "or" ∷ codes "#" ∷ codes "7" ∷ [])
    ∷ unlabelled (codes "or" ∷ codes "x" ∷ [])
    ∷ unlabelled (codes "xor" ∷ codes "#" ∷ codes "8" ∷ [])
    ∷ unlabelled (codes "xor" ∷ codes "x" ∷ [])
    ∷ unlabelled (codes "lsh" ∷ codes "#" ∷ codes "9" ∷ [])
    ∷ unlabelled (codes "lsh" ∷ codes "x" ∷ [])
    ∷ unlabelled (codes "rsh" ∷ codes "#" ∷ codes "10" ∷ [])
    ∷ unlabelled (codes "rsh" ∷ codes "x" ∷ [])
    ∷ unlabelled (codes "neg" ∷ [])
    ∷ []

abbrev pub computing_insns : List Insn
computing_insns =
    BPF_STMT (BPF_ALU + BPF_ADD + BPF_K) 1
    ∷ BPF_STMT (BPF_ALU + BPF_ADD + BPF_X) 0
    ∷ BPF_STMT (BPF_ALU + BPF_SUB + BPF_K) 2
    ∷ BPF_STMT (BPF_ALU + BPF_SUB + BPF_X) 0
    ∷ BPF_STMT (BPF_ALU + BPF_MUL + BPF_K) 3
    ∷ BPF_STMT (BPF_ALU + BPF_MUL + BPF_X) 0
    ∷ BPF_STMT (BPF_ALU + BPF_DIV + BPF_K) 4
    ∷ BPF_STMT (BPF_ALU + BPF_DIV + BPF_X) 0
    ∷ BPF_STMT (BPF_ALU + BPF_MOD + BPF_K) 5
    ∷ BPF_STMT (BPF_ALU + BPF_MOD + BPF_X) 0
    ∷ BPF_STMT (BPF_ALU + BPF_AND + BPF_K) 6
    ∷ BPF_STMT (BPF_ALU + BPF_AND + BPF_X) 0
    ∷ BPF_STMT (BPF_ALU + BPF_OR + BPF_K) 7
    ∷ BPF_STMT (BPF_ALU + BPF_OR + BPF_X) 0
    ∷ BPF_STMT (BPF_ALU + BPF_XOR + BPF_K) 8
    ∷ BPF_STMT (BPF_ALU + BPF_XOR + BPF_X) 0
    ∷ BPF_STMT (BPF_ALU + BPF_LSH + BPF_K) 9
    ∷ BPF_STMT (BPF_ALU + BPF_LSH + BPF_X) 0
    ∷ BPF_STMT (BPF_ALU + BPF_RSH + BPF_K) 10
    ∷ BPF_STMT (BPF_ALU + BPF_RSH + BPF_X) 0
    ∷ BPF_STMT (BPF_ALU + BPF_NEG) 0
    ∷ []

-- what jumps (Linux, the same page): `jne`, `jneq` and `jle` are tests with their targets exchanged
abbrev pub testing_lines : List Line
testing_lines =
    unlabelled (codes "jeq" ∷ codes "#" ∷ codes "1" ∷ codes "," ∷ codes "out" ∷ [])
    ∷ unlabelled (codes "jne" ∷ codes "#" ∷ codes "2" ∷ codes "," ∷ codes "out" ∷ [])
    ∷ unlabelled (codes "jneq" ∷ codes "#" ∷ codes "3" ∷ codes "," ∷ codes "out" ∷ [])
    ∷ unlabelled (codes "jle" ∷ codes "#" ∷ codes "4" ∷ codes "," ∷ codes "out" ∷ [])
    ∷ unlabelled (codes "jge" ∷ codes "#" ∷ codes "5" ∷ codes "," ∷ codes "out" ∷ [])
    ∷ unlabelled (codes "jset" ∷ codes "#" ∷ codes "6" ∷ codes "," ∷ codes "out" ∷ [])
    ∷ unlabelled (codes "jgt" ∷ codes "x" ∷ codes "," ∷ codes "out" ∷ codes "," ∷ codes "in" ∷ [])
    ∷ unlabelled (codes "jmp" ∷ codes "out" ∷ [])
    ∷ record { labels = codes "in" ∷ []; body = codes "ret" ∷ codes "#" ∷ codes "1" ∷ [] }
    ∷ record { labels = codes "out" ∷ []; body = codes "ret" ∷ codes "#" ∷ codes "0" ∷ [] }
    ∷ []

abbrev pub testing_insns : List Insn
testing_insns =
    BPF_JUMP (BPF_JMP + BPF_JEQ + BPF_K) 1 8 0
    ∷ BPF_JUMP (BPF_JMP + BPF_JEQ + BPF_K) 2 0 7
    ∷ BPF_JUMP (BPF_JMP + BPF_JEQ + BPF_K) 3 0 6
    ∷ BPF_JUMP (BPF_JMP + BPF_JGT + BPF_K) 4 0 5
    ∷ BPF_JUMP (BPF_JMP + BPF_JGE + BPF_K) 5 4 0
    ∷ BPF_JUMP (BPF_JMP + BPF_JSET + BPF_K) 6 3 0
    ∷ BPF_JUMP (BPF_JMP + BPF_JGT + BPF_X) 0 2 1
    ∷ BPF_STMT (BPF_JMP + BPF_JA) 1
    ∷ BPF_STMT (BPF_RET + BPF_K) 1
    ∷ BPF_STMT (BPF_RET + BPF_K) 0
    ∷ []

-- Texts that have a fault

abbrev pub return_0 : Line
return_0 = unlabelled (codes "ret" ∷ codes "#" ∷ codes "0" ∷ [])

abbrev pub labelled : List ℕ → Line
labelled name = record { labels = name ∷ []; body = codes "ret" ∷ codes "#" ∷ codes "0" ∷ [] }

-- a: ja a
abbrev pub looping : Line
looping = record { labels = codes "a" ∷ []; body = codes "ja" ∷ codes "a" ∷ [] }

abbrev pub fault : ℕ → AsmFaultKind → Fault
fault line kind = record { line = line; kind = kind }
