use Rattle.std.proofs.Common.{refl, lit<, arith, subst, [], ◌∷◌, ◌+◌}
use Rattle.bpf_insn.specs.declared.form.Form.TheVariants.{AluK, AluX, Neg}
use Rattle.bpf_insn.specs.declared.form.AluOp.TheVariants.{Add, Sub, Mul, Div, Or, And, Lsh, Rsh, Mod, Xor}
use Rattle.bpf_insn.specs.Machine.{Does}
use Rattle.bpf_insn.specs.Program.{form_at}
use Rattle.bpf_insn.specs.Table.{form_of}
use Rattle.bpf_insn.proofs.Places.{FormAt-same}
use Rattle.definitions_tried.specs.Codes.{BPF_ALU, BPF_DIV, BPF_LSH, BPF_RSH, BPF_MOD, BPF_K, BPF_STMT}
use Rattle.definitions_tried.specs.Filters.{nothing, at}
use Rattle.definitions_tried.proofs.filters.arithmetic.Goals as goal

pub returns-clause-add_wraps_k : goal.returns-clause-add_wraps_k
unfolding form_at form_of
returns-clause-add_wraps_k c = (AluK Add 1, refl, (tt, refl))

pub returns-clause-add_wraps_x : goal.returns-clause-add_wraps_x
unfolding form_at form_of
returns-clause-add_wraps_x c = (AluX Add, refl, ((λ none. absurd none), refl))

pub returns-clause-add_of_the_greatest_k : goal.returns-clause-add_of_the_greatest_k
unfolding form_at form_of
returns-clause-add_of_the_greatest_k c = (AluK Add 4294967295, refl, (tt, refl))

pub returns-clause-add_of_the_greatest_x : goal.returns-clause-add_of_the_greatest_x
unfolding form_at form_of
returns-clause-add_of_the_greatest_x c = (AluX Add, refl, ((λ none. absurd none), refl))

pub returns-clause-sub_wraps_k : goal.returns-clause-sub_wraps_k
unfolding form_at form_of
returns-clause-sub_wraps_k c = (AluK Sub 1, refl, (tt, refl))

pub returns-clause-sub_wraps_x : goal.returns-clause-sub_wraps_x
unfolding form_at form_of
returns-clause-sub_wraps_x c = (AluX Sub, refl, ((λ none. absurd none), refl))

pub returns-clause-sub_of_the_same_k : goal.returns-clause-sub_of_the_same_k
unfolding form_at form_of
returns-clause-sub_of_the_same_k c = (AluK Sub 5, refl, (tt, refl))

pub returns-clause-sub_of_the_same_x : goal.returns-clause-sub_of_the_same_x
unfolding form_at form_of
returns-clause-sub_of_the_same_x c = (AluX Sub, refl, ((λ none. absurd none), refl))

pub returns-clause-mul_wraps_k : goal.returns-clause-mul_wraps_k
unfolding form_at form_of
returns-clause-mul_wraps_k c = (AluK Mul 65536, refl, (tt, refl))

pub returns-clause-mul_wraps_x : goal.returns-clause-mul_wraps_x
unfolding form_at form_of
returns-clause-mul_wraps_x c = (AluX Mul, refl, ((λ none. absurd none), refl))

pub returns-clause-mul_of_the_greatest_k : goal.returns-clause-mul_of_the_greatest_k
unfolding form_at form_of
returns-clause-mul_of_the_greatest_k c = (AluK Mul 4294967295, refl, (tt, refl))

pub returns-clause-mul_of_the_greatest_x : goal.returns-clause-mul_of_the_greatest_x
unfolding form_at form_of
returns-clause-mul_of_the_greatest_x c = (AluX Mul, refl, ((λ none. absurd none), refl))

pub returns-clause-div_is_unsigned_k : goal.returns-clause-div_is_unsigned_k
unfolding form_at form_of
returns-clause-div_is_unsigned_k c = (AluK Div 2, refl, ((λ e. absurd (omega arith)), refl))

pub returns-clause-div_is_unsigned_x : goal.returns-clause-div_is_unsigned_x
unfolding form_at form_of
returns-clause-div_is_unsigned_x c = (AluX Div, refl, ((λ _ e. absurd (omega arith)), refl))

pub returns-clause-div_rounds_down_k : goal.returns-clause-div_rounds_down_k
unfolding form_at form_of
returns-clause-div_rounds_down_k c = (AluK Div 4, refl, ((λ e. absurd (omega arith)), refl))

pub returns-clause-div_rounds_down_x : goal.returns-clause-div_rounds_down_x
unfolding form_at form_of
returns-clause-div_rounds_down_x c = (AluX Div, refl, ((λ _ e. absurd (omega arith)), refl))

pub returns-clause-mod_k : goal.returns-clause-mod_k
unfolding form_at form_of
returns-clause-mod_k c = (AluK Mod 1879048192, refl, ((λ e. absurd (omega arith)), refl))

pub returns-clause-mod_x : goal.returns-clause-mod_x
unfolding form_at form_of
returns-clause-mod_x c = (AluX Mod, refl, ((λ _ e. absurd (omega arith)), refl))

pub returns-clause-or_k : goal.returns-clause-or_k
unfolding form_at form_of
returns-clause-or_k c = (AluK Or 2147483647, refl, (tt, refl))

pub returns-clause-or_x : goal.returns-clause-or_x
unfolding form_at form_of
returns-clause-or_x c = (AluX Or, refl, ((λ none. absurd none), refl))

pub returns-clause-and_k : goal.returns-clause-and_k
unfolding form_at form_of
returns-clause-and_k c = (AluK And 4294967280, refl, (tt, refl))

pub returns-clause-and_x : goal.returns-clause-and_x
unfolding form_at form_of
returns-clause-and_x c = (AluX And, refl, ((λ none. absurd none), refl))

pub returns-clause-xor_k : goal.returns-clause-xor_k
unfolding form_at form_of
returns-clause-xor_k c = (AluK Xor 4294967280, refl, (tt, refl))

pub returns-clause-xor_x : goal.returns-clause-xor_x
unfolding form_at form_of
returns-clause-xor_x c = (AluX Xor, refl, ((λ none. absurd none), refl))

pub returns-clause-lsh_by_31_k : goal.returns-clause-lsh_by_31_k
unfolding form_at form_of
returns-clause-lsh_by_31_k c = (AluK Lsh 31, refl, (lit< tt, refl))

pub returns-clause-lsh_by_31_x : goal.returns-clause-lsh_by_31_x
unfolding form_at form_of
returns-clause-lsh_by_31_x c = (AluX Lsh, refl, ((λ none. absurd none), refl))

pub returns-clause-rsh_by_31_k : goal.returns-clause-rsh_by_31_k
unfolding form_at form_of
returns-clause-rsh_by_31_k c = (AluK Rsh 31, refl, (lit< tt, refl))

pub returns-clause-rsh_by_31_x : goal.returns-clause-rsh_by_31_x
unfolding form_at form_of
returns-clause-rsh_by_31_x c = (AluX Rsh, refl, ((λ none. absurd none), refl))

pub returns-clause-lsh_by_32 : goal.returns-clause-lsh_by_32
unfolding form_at form_of
returns-clause-lsh_by_32 c = (AluX Lsh, refl, ((λ none. absurd none), refl))

pub returns-clause-rsh_by_32 : goal.returns-clause-rsh_by_32
unfolding form_at form_of
returns-clause-rsh_by_32 c = (AluX Rsh, refl, ((λ none. absurd none), refl))

pub returns-clause-lsh_by_the_greatest : goal.returns-clause-lsh_by_the_greatest
unfolding form_at form_of
returns-clause-lsh_by_the_greatest c = (AluX Lsh, refl, ((λ none. absurd none), refl))

pub returns-clause-div_by_an_index_of_0 : goal.returns-clause-div_by_an_index_of_0
unfolding form_at form_of
returns-clause-div_by_an_index_of_0 c = (AluX Div, refl, (tt, refl, refl))

pub returns-clause-mod_by_an_index_of_0 : goal.returns-clause-mod_by_an_index_of_0
unfolding form_at form_of
returns-clause-mod_by_an_index_of_0 c = (AluX Mod, refl, (tt, refl, refl))

pub returns-clause-div_by_the_constant_0 : goal.returns-clause-div_by_the_constant_0
unfolding form_at form_of
returns-clause-div_by_the_constant_0 c = λ t s. let d = subst (λ f. Does nothing f (at 0 7 9) t) (FormAt-same (BPF_STMT (BPF_ALU + BPF_DIV + BPF_K) 0 ∷ []) 0 s.0 (AluK Div 0) s.1 refl) s.2 in absurd (d.0 refl)

pub returns-clause-mod_by_the_constant_0 : goal.returns-clause-mod_by_the_constant_0
unfolding form_at form_of
returns-clause-mod_by_the_constant_0 c = λ t s. let d = subst (λ f. Does nothing f (at 0 7 9) t) (FormAt-same (BPF_STMT (BPF_ALU + BPF_MOD + BPF_K) 0 ∷ []) 0 s.0 (AluK Mod 0) s.1 refl) s.2 in absurd (d.0 refl)

pub returns-clause-lsh_by_the_constant_32 : goal.returns-clause-lsh_by_the_constant_32
unfolding form_at form_of
returns-clause-lsh_by_the_constant_32 c = λ t s. let d = subst (λ f. Does nothing f (at 0 7 9) t) (FormAt-same (BPF_STMT (BPF_ALU + BPF_LSH + BPF_K) 32 ∷ []) 0 s.0 (AluK Lsh 32) s.1 refl) s.2 in let small = d.0 in absurd (omega arith)

pub returns-clause-rsh_by_the_constant_32 : goal.returns-clause-rsh_by_the_constant_32
unfolding form_at form_of
returns-clause-rsh_by_the_constant_32 c = λ t s. let d = subst (λ f. Does nothing f (at 0 7 9) t) (FormAt-same (BPF_STMT (BPF_ALU + BPF_RSH + BPF_K) 32 ∷ []) 0 s.0 (AluK Rsh 32) s.1 refl) s.2 in let small = d.0 in absurd (omega arith)

pub returns-clause-neg : goal.returns-clause-neg
unfolding form_at form_of
returns-clause-neg c = (Neg, refl, refl)

pub returns-clause-neg_of_0 : goal.returns-clause-neg_of_0
unfolding form_at form_of
returns-clause-neg_of_0 c = (Neg, refl, refl)

pub returns-clause-neg_of_the_half : goal.returns-clause-neg_of_the_half
unfolding form_at form_of
returns-clause-neg_of_the_half c = (Neg, refl, refl)
