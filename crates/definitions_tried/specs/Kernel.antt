-- Programs after the cases of lib/test_bpf.c of Linux 6.1, each headed by the name of its case, with that file's results in src/kernel.rt.
use Rattle.std.specs.Prelude.{◌+◌, List, [], ◌∷◌}
use Rattle.bpf_insn.specs.declared.insn.Insn.{Insn}
use Rattle.definitions_tried.specs.Codes.{BPF_LD, BPF_LDX, BPF_ALU, BPF_JMP, BPF_RET, BPF_MISC, BPF_W, BPF_H, BPF_B, BPF_IMM, BPF_ABS, BPF_IND, BPF_LEN, BPF_ADD, BPF_SUB, BPF_MUL, BPF_DIV, BPF_OR, BPF_AND, BPF_LSH, BPF_NEG, BPF_MOD, BPF_JA, BPF_JEQ, BPF_JGT, BPF_JGE, BPF_JSET, BPF_K, BPF_X, BPF_A, BPF_TAX, BPF_TXA, BPF_STMT, BPF_JUMP}

-- "ADD_SUB_MUL_K"
abbrev pub add_sub_mul : List Insn
add_sub_mul =
    BPF_STMT (BPF_LD + BPF_IMM) 1
    ∷ BPF_STMT (BPF_ALU + BPF_ADD + BPF_K) 2
    ∷ BPF_STMT (BPF_LDX + BPF_IMM) 3
    ∷ BPF_STMT (BPF_ALU + BPF_SUB + BPF_X) 0
    ∷ BPF_STMT (BPF_ALU + BPF_ADD + BPF_K) 0xffffffff
    ∷ BPF_STMT (BPF_ALU + BPF_MUL + BPF_K) 3
    ∷ BPF_STMT (BPF_RET + BPF_A) 0
    ∷ []

-- "DIV_MOD_KX"
abbrev pub div_mod : List Insn
div_mod =
    BPF_STMT (BPF_LD + BPF_IMM) 8
    ∷ BPF_STMT (BPF_ALU + BPF_DIV + BPF_K) 2
    ∷ BPF_STMT (BPF_MISC + BPF_TAX) 0
    ∷ BPF_STMT (BPF_LD + BPF_IMM) 0xffffffff
    ∷ BPF_STMT (BPF_ALU + BPF_DIV + BPF_X) 0
    ∷ BPF_STMT (BPF_MISC + BPF_TAX) 0
    ∷ BPF_STMT (BPF_LD + BPF_IMM) 0xffffffff
    ∷ BPF_STMT (BPF_ALU + BPF_DIV + BPF_K) 0x70000000
    ∷ BPF_STMT (BPF_MISC + BPF_TAX) 0
    ∷ BPF_STMT (BPF_LD + BPF_IMM) 0xffffffff
    ∷ BPF_STMT (BPF_ALU + BPF_MOD + BPF_X) 0
    ∷ BPF_STMT (BPF_MISC + BPF_TAX) 0
    ∷ BPF_STMT (BPF_LD + BPF_IMM) 0xffffffff
    ∷ BPF_STMT (BPF_ALU + BPF_MOD + BPF_K) 0x70000000
    ∷ BPF_STMT (BPF_ALU + BPF_ADD + BPF_X) 0
    ∷ BPF_STMT (BPF_RET + BPF_A) 0
    ∷ []

-- "AND_OR_LSH_K"
abbrev pub and_or_lsh : List Insn
and_or_lsh =
    BPF_STMT (BPF_LD + BPF_IMM) 255
    ∷ BPF_STMT (BPF_ALU + BPF_AND + BPF_K) 240
    ∷ BPF_STMT (BPF_ALU + BPF_LSH + BPF_K) 27
    ∷ BPF_STMT (BPF_MISC + BPF_TAX) 0
    ∷ BPF_STMT (BPF_LD + BPF_IMM) 15
    ∷ BPF_STMT (BPF_ALU + BPF_OR + BPF_K) 240
    ∷ BPF_STMT (BPF_ALU + BPF_ADD + BPF_X) 0
    ∷ BPF_STMT (BPF_RET + BPF_A) 0
    ∷ []

-- "TAX"
abbrev pub tax : List Insn
tax =
    BPF_STMT (BPF_LD + BPF_IMM) 1
    ∷ BPF_STMT (BPF_MISC + BPF_TAX) 0
    ∷ BPF_STMT (BPF_LD + BPF_IMM) 2
    ∷ BPF_STMT (BPF_ALU + BPF_ADD + BPF_X) 0
    ∷ BPF_STMT (BPF_ALU + BPF_NEG) 0
    ∷ BPF_STMT (BPF_MISC + BPF_TAX) 0
    ∷ BPF_STMT (BPF_LD + BPF_LEN) 0
    ∷ BPF_STMT (BPF_ALU + BPF_ADD + BPF_X) 0
    ∷ BPF_STMT (BPF_MISC + BPF_TAX) 0
    ∷ BPF_STMT (BPF_LD + BPF_B + BPF_IND) 1
    ∷ BPF_STMT (BPF_RET + BPF_A) 0
    ∷ []

-- "TXA"
abbrev pub txa : List Insn
txa =
    BPF_STMT (BPF_LDX + BPF_LEN) 0
    ∷ BPF_STMT (BPF_MISC + BPF_TXA) 0
    ∷ BPF_STMT (BPF_ALU + BPF_ADD + BPF_X) 0
    ∷ BPF_STMT (BPF_RET + BPF_A) 0
    ∷ []

-- "RET_A"
abbrev pub ret_a : List Insn
ret_a =
    BPF_STMT (BPF_MISC + BPF_TXA) 0
    ∷ BPF_STMT (BPF_RET + BPF_A) 0
    ∷ []

-- "LD_ABS"
abbrev pub ld_abs : List Insn
ld_abs =
    BPF_STMT (BPF_LD + BPF_W + BPF_ABS) 1000
    ∷ BPF_STMT (BPF_RET + BPF_K) 1
    ∷ []

-- "LD_IND"
abbrev pub ld_ind : List Insn
ld_ind =
    BPF_STMT (BPF_LDX + BPF_LEN) 0
    ∷ BPF_STMT (BPF_LD + BPF_H + BPF_IND) 0xffffffff
    ∷ BPF_STMT (BPF_RET + BPF_K) 1
    ∷ []

-- "JEQ"
abbrev pub jeq : List Insn
jeq =
    BPF_STMT (BPF_LDX + BPF_LEN) 0
    ∷ BPF_STMT (BPF_LD + BPF_B + BPF_ABS) 2
    ∷ BPF_JUMP (BPF_JMP + BPF_JEQ + BPF_X) 0 0 1
    ∷ BPF_STMT (BPF_RET + BPF_K) 1
    ∷ BPF_STMT (BPF_RET + BPF_K) 0xffffffff
    ∷ []

-- "JGT"
abbrev pub jgt : List Insn
jgt =
    BPF_STMT (BPF_LDX + BPF_LEN) 0
    ∷ BPF_STMT (BPF_LD + BPF_B + BPF_ABS) 2
    ∷ BPF_JUMP (BPF_JMP + BPF_JGT + BPF_X) 0 0 1
    ∷ BPF_STMT (BPF_RET + BPF_K) 1
    ∷ BPF_STMT (BPF_RET + BPF_K) 0xffffffff
    ∷ []

-- "JGE (jt 0), test 1"
abbrev pub jge : List Insn
jge =
    BPF_STMT (BPF_LDX + BPF_LEN) 0
    ∷ BPF_STMT (BPF_LD + BPF_B + BPF_ABS) 2
    ∷ BPF_JUMP (BPF_JMP + BPF_JGE + BPF_X) 0 0 1
    ∷ BPF_STMT (BPF_RET + BPF_K) 1
    ∷ BPF_STMT (BPF_RET + BPF_K) 0xffffffff
    ∷ []

-- "JSET", which repeats its last test there, and has 1 in the unused fields of a `ja`
abbrev pub jset : List Insn
jset =
    BPF_STMT (BPF_JMP + BPF_JA) 0
    ∷ BPF_STMT (BPF_JMP + BPF_JA) 1
    ∷ BPF_STMT (BPF_JMP + BPF_JA) 0
    ∷ BPF_STMT (BPF_JMP + BPF_JA) 0
    ∷ BPF_STMT (BPF_LDX + BPF_LEN) 0
    ∷ BPF_STMT (BPF_MISC + BPF_TXA) 0
    ∷ BPF_STMT (BPF_ALU + BPF_SUB + BPF_K) 4
    ∷ BPF_STMT (BPF_MISC + BPF_TAX) 0
    ∷ BPF_STMT (BPF_LD + BPF_W + BPF_IND) 0
    ∷ BPF_JUMP (BPF_JMP + BPF_JSET + BPF_K) 1 0 1
    ∷ BPF_STMT (BPF_RET + BPF_K) 10
    ∷ BPF_JUMP (BPF_JMP + BPF_JSET + BPF_K) 0x80000000 0 1
    ∷ BPF_STMT (BPF_RET + BPF_K) 20
    ∷ BPF_JUMP (BPF_JMP + BPF_JSET + BPF_K) 0xffffff 1 0
    ∷ BPF_STMT (BPF_RET + BPF_K) 30
    ∷ BPF_STMT (BPF_RET + BPF_K) 0xffffffff
    ∷ []
