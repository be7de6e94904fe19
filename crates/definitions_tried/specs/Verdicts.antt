-- Programs that a verifier must accept, and the way to say that one is refused.
use Rattle.std.specs.Prelude.{◌≡◌, ◌+◌, ℕ, List, [], ◌∷◌}
use Rattle.bpf_insn.specs.declared.insn.Insn.{Insn}
use Rattle.filter_verify.specs.declared.rules.Refusal.{Refusal}
use Rattle.filter_verify.specs.Rules.{Refuses}
use Rattle.filter_verify.specs.Numbers.{number_of, place_of}
use Rattle.definitions_tried.specs.Codes.{BPF_LD, BPF_ST, BPF_JMP, BPF_RET, BPF_MEM, BPF_JEQ, BPF_JA, BPF_K, BPF_STMT, BPF_JUMP}

-- the least program
abbrev pub return_0 : Insn
return_0 = BPF_STMT (BPF_RET + BPF_K) 0

-- the word that is loaded was stored
abbrev pub store_load : List Insn
store_load = BPF_STMT BPF_ST 3 ∷ BPF_STMT (BPF_LD + BPF_MEM) 3 ∷ return_0 ∷ []

-- a load of an unwritten word that no path reaches
abbrev pub unreached_load : List Insn
unreached_load = BPF_STMT (BPF_JMP + BPF_JA) 1 ∷ BPF_STMT (BPF_LD + BPF_MEM) 3 ∷ return_0 ∷ []

-- one of the two paths to the load passes over the store
abbrev pub store_on_one_path : List Insn
store_on_one_path = BPF_JUMP (BPF_JMP + BPF_JEQ + BPF_K) 7 0 1 ∷ BPF_STMT BPF_ST 3 ∷ BPF_STMT (BPF_LD + BPF_MEM) 3 ∷ return_0 ∷ []

-- the program is refused for this reason, by the rule of this number and at this place
abbrev pub IsRefused : List Insn → Refusal → ℕ → ℕ → Type 0
IsRefused program refusal number place = Refuses program refusal × (number_of refusal ≡ number) × (place_of refusal ≡ place)
