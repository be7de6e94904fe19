use Rattle.std.proofs.Common.{refl, lit<, lit≤, arith}
use Rattle.std.specs.FinMap.{empty}
use Rattle.bpf_insn.specs.declared.form.Form.TheVariants.{LdImm, LdAbs, LdInd, LdLen, LdxImm, LdxLen, AluK, AluX, Neg, Ja, JmpK, JmpX, RetK, RetA, Tax, Txa}
use Rattle.bpf_insn.specs.declared.form.Size.TheVariants.{Word, Half, Byte}
use Rattle.bpf_insn.specs.declared.form.AluOp.TheVariants.{Add, Sub, Mul, Div, Or, And, Lsh, Mod}
use Rattle.bpf_insn.specs.declared.form.Test.TheVariants.{Equal, Greater, GreaterOrEqual, AnyBit}
use Rattle.bpf_insn.specs.Program.{form_at}
use Rattle.bpf_insn.specs.Table.{form_of}
use Rattle.definitions_tried.proofs.kernel.kernel_programs.Goals as goal

pub returns-clause-add_sub_mul : goal.returns-clause-add_sub_mul
unfolding form_at form_of
returns-clause-add_sub_mul c = record { before = 6; counted = refl; state = record { pc = 6; a = 4294967293; x = 3; memory = empty }; chain = ((record { pc = 5; a = 4294967295; x = 3; memory = empty }), ((record { pc = 4; a = 0; x = 3; memory = empty }), ((record { pc = 3; a = 3; x = 3; memory = empty }), ((record { pc = 2; a = 3; x = 0; memory = empty }), ((record { pc = 1; a = 1; x = 0; memory = empty }), ((record { pc = 0; a = 0; x = 0; memory = empty }), refl, (LdImm 1, refl, refl)), (AluK Add 2, refl, (tt, refl))), (LdxImm 3, refl, refl)), (AluX Sub, refl, ((λ none. absurd none), refl))), (AluK Add 4294967295, refl, (tt, refl))), (AluK Mul 3, refl, (tt, refl))); last = (RetA, refl, refl) }

pub returns-clause-div_mod : goal.returns-clause-div_mod
unfolding form_at form_of
returns-clause-div_mod c = record { before = 15; counted = refl; state = record { pc = 15; a = 536870912; x = 1; memory = empty }; chain = ((record { pc = 14; a = 536870911; x = 1; memory = empty }), ((record { pc = 13; a = 4294967295; x = 1; memory = empty }), ((record { pc = 12; a = 1; x = 1; memory = empty }), ((record { pc = 11; a = 1; x = 2; memory = empty }), ((record { pc = 10; a = 4294967295; x = 2; memory = empty }), ((record { pc = 9; a = 2; x = 2; memory = empty }), ((record { pc = 8; a = 2; x = 1073741823; memory = empty }), ((record { pc = 7; a = 4294967295; x = 1073741823; memory = empty }), ((record { pc = 6; a = 1073741823; x = 1073741823; memory = empty }), ((record { pc = 5; a = 1073741823; x = 4; memory = empty }), ((record { pc = 4; a = 4294967295; x = 4; memory = empty }), ((record { pc = 3; a = 4; x = 4; memory = empty }), ((record { pc = 2; a = 4; x = 0; memory = empty }), ((record { pc = 1; a = 8; x = 0; memory = empty }), ((record { pc = 0; a = 0; x = 0; memory = empty }), refl, (LdImm 8, refl, refl)), (AluK Div 2, refl, ((λ e. absurd (omega arith)), refl))), (Tax, refl, refl)), (LdImm 4294967295, refl, refl)), (AluX Div, refl, ((λ _ e. absurd (omega arith)), refl))), (Tax, refl, refl)), (LdImm 4294967295, refl, refl)), (AluK Div 1879048192, refl, ((λ e. absurd (omega arith)), refl))), (Tax, refl, refl)), (LdImm 4294967295, refl, refl)), (AluX Mod, refl, ((λ _ e. absurd (omega arith)), refl))), (Tax, refl, refl)), (LdImm 4294967295, refl, refl)), (AluK Mod 1879048192, refl, ((λ e. absurd (omega arith)), refl))), (AluX Add, refl, ((λ none. absurd none), refl))); last = (RetA, refl, refl) }

pub returns-clause-and_or_lsh : goal.returns-clause-and_or_lsh
unfolding form_at form_of
returns-clause-and_or_lsh c = record { before = 7; counted = refl; state = record { pc = 7; a = 2147483903; x = 2147483648; memory = empty }; chain = ((record { pc = 6; a = 255; x = 2147483648; memory = empty }), ((record { pc = 5; a = 15; x = 2147483648; memory = empty }), ((record { pc = 4; a = 2147483648; x = 2147483648; memory = empty }), ((record { pc = 3; a = 2147483648; x = 0; memory = empty }), ((record { pc = 2; a = 240; x = 0; memory = empty }), ((record { pc = 1; a = 255; x = 0; memory = empty }), ((record { pc = 0; a = 0; x = 0; memory = empty }), refl, (LdImm 255, refl, refl)), (AluK And 240, refl, (tt, refl))), (AluK Lsh 27, refl, (lit< tt, refl))), (Tax, refl, refl)), (LdImm 15, refl, refl)), (AluK Or 240, refl, (tt, refl))), (AluX Add, refl, ((λ none. absurd none), refl))); last = (RetA, refl, refl) }

pub returns-clause-tax_of_3 : goal.returns-clause-tax_of_3
unfolding form_at form_of
returns-clause-tax_of_3 c = record { before = 10; counted = refl; state = record { pc = 10; a = 20; x = 0; memory = empty }; chain = ((record { pc = 9; a = 0; x = 0; memory = empty }), ((record { pc = 8; a = 0; x = 4294967293; memory = empty }), ((record { pc = 7; a = 3; x = 4294967293; memory = empty }), ((record { pc = 6; a = 4294967293; x = 4294967293; memory = empty }), ((record { pc = 5; a = 4294967293; x = 1; memory = empty }), ((record { pc = 4; a = 3; x = 1; memory = empty }), ((record { pc = 3; a = 2; x = 1; memory = empty }), ((record { pc = 2; a = 1; x = 1; memory = empty }), ((record { pc = 1; a = 1; x = 0; memory = empty }), ((record { pc = 0; a = 0; x = 0; memory = empty }), refl, (LdImm 1, refl, refl)), (Tax, refl, refl)), (LdImm 2, refl, refl)), (AluX Add, refl, ((λ none. absurd none), refl))), (Neg, refl, refl)), (Tax, refl, refl)), (LdLen, refl, refl)), (AluX Add, refl, ((λ none. absurd none), refl))), (Tax, refl, refl)), (LdInd Byte 1, refl, (20, (lit≤ tt, refl), refl))); last = (RetA, refl, refl) }

pub returns-clause-tax_of_4 : goal.returns-clause-tax_of_4
unfolding form_at form_of
returns-clause-tax_of_4 c = record { before = 10; counted = refl; state = record { pc = 10; a = 30; x = 1; memory = empty }; chain = ((record { pc = 9; a = 1; x = 1; memory = empty }), ((record { pc = 8; a = 1; x = 4294967293; memory = empty }), ((record { pc = 7; a = 4; x = 4294967293; memory = empty }), ((record { pc = 6; a = 4294967293; x = 4294967293; memory = empty }), ((record { pc = 5; a = 4294967293; x = 1; memory = empty }), ((record { pc = 4; a = 3; x = 1; memory = empty }), ((record { pc = 3; a = 2; x = 1; memory = empty }), ((record { pc = 2; a = 1; x = 1; memory = empty }), ((record { pc = 1; a = 1; x = 0; memory = empty }), ((record { pc = 0; a = 0; x = 0; memory = empty }), refl, (LdImm 1, refl, refl)), (Tax, refl, refl)), (LdImm 2, refl, refl)), (AluX Add, refl, ((λ none. absurd none), refl))), (Neg, refl, refl)), (Tax, refl, refl)), (LdLen, refl, refl)), (AluX Add, refl, ((λ none. absurd none), refl))), (Tax, refl, refl)), (LdInd Byte 1, refl, (30, (lit≤ tt, refl), refl))); last = (RetA, refl, refl) }

pub returns-clause-txa_of_1 : goal.returns-clause-txa_of_1
unfolding form_at form_of
returns-clause-txa_of_1 c = record { before = 3; counted = refl; state = record { pc = 3; a = 2; x = 1; memory = empty }; chain = ((record { pc = 2; a = 1; x = 1; memory = empty }), ((record { pc = 1; a = 0; x = 1; memory = empty }), ((record { pc = 0; a = 0; x = 0; memory = empty }), refl, (LdxLen, refl, refl)), (Txa, refl, refl)), (AluX Add, refl, ((λ none. absurd none), refl))); last = (RetA, refl, refl) }

pub returns-clause-txa_of_3 : goal.returns-clause-txa_of_3
unfolding form_at form_of
returns-clause-txa_of_3 c = record { before = 3; counted = refl; state = record { pc = 3; a = 6; x = 3; memory = empty }; chain = ((record { pc = 2; a = 3; x = 3; memory = empty }), ((record { pc = 1; a = 0; x = 3; memory = empty }), ((record { pc = 0; a = 0; x = 0; memory = empty }), refl, (LdxLen, refl, refl)), (Txa, refl, refl)), (AluX Add, refl, ((λ none. absurd none), refl))); last = (RetA, refl, refl) }

pub returns-clause-txa_of_4 : goal.returns-clause-txa_of_4
unfolding form_at form_of
returns-clause-txa_of_4 c = record { before = 3; counted = refl; state = record { pc = 3; a = 8; x = 4; memory = empty }; chain = ((record { pc = 2; a = 4; x = 4; memory = empty }), ((record { pc = 1; a = 0; x = 4; memory = empty }), ((record { pc = 0; a = 0; x = 0; memory = empty }), refl, (LdxLen, refl, refl)), (Txa, refl, refl)), (AluX Add, refl, ((λ none. absurd none), refl))); last = (RetA, refl, refl) }

pub returns-clause-ret_a_of_1 : goal.returns-clause-ret_a_of_1
unfolding form_at form_of
returns-clause-ret_a_of_1 c = record { before = 1; counted = refl; state = record { pc = 1; a = 0; x = 0; memory = empty }; chain = ((record { pc = 0; a = 0; x = 0; memory = empty }), refl, (Txa, refl, refl)); last = (RetA, refl, refl) }

pub returns-clause-ld_abs_of_10 : goal.returns-clause-ld_abs_of_10
unfolding form_at form_of
returns-clause-ld_abs_of_10 c = record { before = 0; counted = refl; state = record { pc = 0; a = 0; x = 0; memory = empty }; chain = refl; last = (LdAbs Word 1000, refl, (lit< tt, refl)) }

pub returns-clause-ld_ind_of_1 : goal.returns-clause-ld_ind_of_1
unfolding form_at form_of
returns-clause-ld_ind_of_1 c = record { before = 1; counted = refl; state = record { pc = 1; a = 0; x = 1; memory = empty }; chain = ((record { pc = 0; a = 0; x = 0; memory = empty }), refl, (LdxLen, refl, refl)); last = (LdInd Half 4294967295, refl, (lit< tt, refl)) }

pub returns-clause-ld_ind_of_10 : goal.returns-clause-ld_ind_of_10
unfolding form_at form_of
returns-clause-ld_ind_of_10 c = record { before = 1; counted = refl; state = record { pc = 1; a = 0; x = 10; memory = empty }; chain = ((record { pc = 0; a = 0; x = 0; memory = empty }), refl, (LdxLen, refl, refl)); last = (LdInd Half 4294967295, refl, (lit< tt, refl)) }

pub returns-clause-jeq_of_1 : goal.returns-clause-jeq_of_1
unfolding form_at form_of
returns-clause-jeq_of_1 c = record { before = 1; counted = refl; state = record { pc = 1; a = 0; x = 1; memory = empty }; chain = ((record { pc = 0; a = 0; x = 0; memory = empty }), refl, (LdxLen, refl, refl)); last = (LdAbs Byte 2, refl, (lit< tt, refl)) }

pub returns-clause-jeq_of_3 : goal.returns-clause-jeq_of_3
unfolding form_at form_of
returns-clause-jeq_of_3 c = record { before = 3; counted = refl; state = record { pc = 3; a = 3; x = 3; memory = empty }; chain = ((record { pc = 2; a = 3; x = 3; memory = empty }), ((record { pc = 1; a = 0; x = 3; memory = empty }), ((record { pc = 0; a = 0; x = 0; memory = empty }), refl, (LdxLen, refl, refl)), (LdAbs Byte 2, refl, (lit< tt, (3, (lit≤ tt, refl), refl)))), (JmpX Equal 0 1, refl, refl)); last = (RetK 1, refl, refl) }

pub returns-clause-jeq_of_4 : goal.returns-clause-jeq_of_4
unfolding form_at form_of
returns-clause-jeq_of_4 c = record { before = 3; counted = refl; state = record { pc = 4; a = 3; x = 4; memory = empty }; chain = ((record { pc = 2; a = 3; x = 4; memory = empty }), ((record { pc = 1; a = 0; x = 4; memory = empty }), ((record { pc = 0; a = 0; x = 0; memory = empty }), refl, (LdxLen, refl, refl)), (LdAbs Byte 2, refl, (lit< tt, (3, (lit≤ tt, refl), refl)))), (JmpX Equal 0 1, refl, refl)); last = (RetK 4294967295, refl, refl) }

pub returns-clause-jgt_of_2 : goal.returns-clause-jgt_of_2
unfolding form_at form_of
returns-clause-jgt_of_2 c = record { before = 1; counted = refl; state = record { pc = 1; a = 0; x = 2; memory = empty }; chain = ((record { pc = 0; a = 0; x = 0; memory = empty }), refl, (LdxLen, refl, refl)); last = (LdAbs Byte 2, refl, (lit< tt, refl)) }

pub returns-clause-jgt_of_3 : goal.returns-clause-jgt_of_3
unfolding form_at form_of
returns-clause-jgt_of_3 c = record { before = 3; counted = refl; state = record { pc = 3; a = 4; x = 3; memory = empty }; chain = ((record { pc = 2; a = 4; x = 3; memory = empty }), ((record { pc = 1; a = 0; x = 3; memory = empty }), ((record { pc = 0; a = 0; x = 0; memory = empty }), refl, (LdxLen, refl, refl)), (LdAbs Byte 2, refl, (lit< tt, (4, (lit≤ tt, refl), refl)))), (JmpX Greater 0 1, refl, refl)); last = (RetK 1, refl, refl) }

pub returns-clause-jgt_of_4 : goal.returns-clause-jgt_of_4
unfolding form_at form_of
returns-clause-jgt_of_4 c = record { before = 3; counted = refl; state = record { pc = 4; a = 4; x = 4; memory = empty }; chain = ((record { pc = 2; a = 4; x = 4; memory = empty }), ((record { pc = 1; a = 0; x = 4; memory = empty }), ((record { pc = 0; a = 0; x = 0; memory = empty }), refl, (LdxLen, refl, refl)), (LdAbs Byte 2, refl, (lit< tt, (4, (lit≤ tt, refl), refl)))), (JmpX Greater 0 1, refl, refl)); last = (RetK 4294967295, refl, refl) }

pub returns-clause-jge_of_2 : goal.returns-clause-jge_of_2
unfolding form_at form_of
returns-clause-jge_of_2 c = record { before = 1; counted = refl; state = record { pc = 1; a = 0; x = 2; memory = empty }; chain = ((record { pc = 0; a = 0; x = 0; memory = empty }), refl, (LdxLen, refl, refl)); last = (LdAbs Byte 2, refl, (lit< tt, refl)) }

pub returns-clause-jge_of_3 : goal.returns-clause-jge_of_3
unfolding form_at form_of
returns-clause-jge_of_3 c = record { before = 3; counted = refl; state = record { pc = 3; a = 4; x = 3; memory = empty }; chain = ((record { pc = 2; a = 4; x = 3; memory = empty }), ((record { pc = 1; a = 0; x = 3; memory = empty }), ((record { pc = 0; a = 0; x = 0; memory = empty }), refl, (LdxLen, refl, refl)), (LdAbs Byte 2, refl, (lit< tt, (4, (lit≤ tt, refl), refl)))), (JmpX GreaterOrEqual 0 1, refl, refl)); last = (RetK 1, refl, refl) }

pub returns-clause-jge_of_4 : goal.returns-clause-jge_of_4
unfolding form_at form_of
returns-clause-jge_of_4 c = record { before = 3; counted = refl; state = record { pc = 3; a = 4; x = 4; memory = empty }; chain = ((record { pc = 2; a = 4; x = 4; memory = empty }), ((record { pc = 1; a = 0; x = 4; memory = empty }), ((record { pc = 0; a = 0; x = 0; memory = empty }), refl, (LdxLen, refl, refl)), (LdAbs Byte 2, refl, (lit< tt, (4, (lit≤ tt, refl), refl)))), (JmpX GreaterOrEqual 0 1, refl, refl)); last = (RetK 1, refl, refl) }

pub returns-clause-jset_of_4 : goal.returns-clause-jset_of_4
unfolding form_at form_of
returns-clause-jset_of_4 c = record { before = 9; counted = refl; state = record { pc = 10; a = 11162881; x = 0; memory = empty }; chain = ((record { pc = 9; a = 11162881; x = 0; memory = empty }), ((record { pc = 8; a = 0; x = 0; memory = empty }), ((record { pc = 7; a = 0; x = 4; memory = empty }), ((record { pc = 6; a = 4; x = 4; memory = empty }), ((record { pc = 5; a = 0; x = 4; memory = empty }), ((record { pc = 4; a = 0; x = 0; memory = empty }), ((record { pc = 3; a = 0; x = 0; memory = empty }), ((record { pc = 1; a = 0; x = 0; memory = empty }), ((record { pc = 0; a = 0; x = 0; memory = empty }), refl, (Ja 0, refl, refl)), (Ja 1, refl, refl)), (Ja 0, refl, refl)), (LdxLen, refl, refl)), (Txa, refl, refl)), (AluK Sub 4, refl, (tt, refl))), (Tax, refl, refl)), (LdInd Word 0, refl, (11162881, (lit≤ tt, refl), refl))), (JmpK AnyBit 1 0 1, refl, refl)); last = (RetK 10, refl, refl) }

pub returns-clause-jset_of_5 : goal.returns-clause-jset_of_5
unfolding form_at form_of
returns-clause-jset_of_5 c = record { before = 10; counted = refl; state = record { pc = 12; a = 2857697536; x = 1; memory = empty }; chain = ((record { pc = 11; a = 2857697536; x = 1; memory = empty }), ((record { pc = 9; a = 2857697536; x = 1; memory = empty }), ((record { pc = 8; a = 1; x = 1; memory = empty }), ((record { pc = 7; a = 1; x = 5; memory = empty }), ((record { pc = 6; a = 5; x = 5; memory = empty }), ((record { pc = 5; a = 0; x = 5; memory = empty }), ((record { pc = 4; a = 0; x = 0; memory = empty }), ((record { pc = 3; a = 0; x = 0; memory = empty }), ((record { pc = 1; a = 0; x = 0; memory = empty }), ((record { pc = 0; a = 0; x = 0; memory = empty }), refl, (Ja 0, refl, refl)), (Ja 1, refl, refl)), (Ja 0, refl, refl)), (LdxLen, refl, refl)), (Txa, refl, refl)), (AluK Sub 4, refl, (tt, refl))), (Tax, refl, refl)), (LdInd Word 0, refl, (2857697536, (lit≤ tt, refl), refl))), (JmpK AnyBit 1 0 1, refl, refl)), (JmpK AnyBit 2147483648 0 1, refl, refl)); last = (RetK 20, refl, refl) }

pub returns-clause-jset_of_6 : goal.returns-clause-jset_of_6
unfolding form_at form_of
returns-clause-jset_of_6 c = record { before = 11; counted = refl; state = record { pc = 15; a = 1426128896; x = 2; memory = empty }; chain = ((record { pc = 13; a = 1426128896; x = 2; memory = empty }), ((record { pc = 11; a = 1426128896; x = 2; memory = empty }), ((record { pc = 9; a = 1426128896; x = 2; memory = empty }), ((record { pc = 8; a = 2; x = 2; memory = empty }), ((record { pc = 7; a = 2; x = 6; memory = empty }), ((record { pc = 6; a = 6; x = 6; memory = empty }), ((record { pc = 5; a = 0; x = 6; memory = empty }), ((record { pc = 4; a = 0; x = 0; memory = empty }), ((record { pc = 3; a = 0; x = 0; memory = empty }), ((record { pc = 1; a = 0; x = 0; memory = empty }), ((record { pc = 0; a = 0; x = 0; memory = empty }), refl, (Ja 0, refl, refl)), (Ja 1, refl, refl)), (Ja 0, refl, refl)), (LdxLen, refl, refl)), (Txa, refl, refl)), (AluK Sub 4, refl, (tt, refl))), (Tax, refl, refl)), (LdInd Word 0, refl, (1426128896, (lit≤ tt, refl), refl))), (JmpK AnyBit 1 0 1, refl, refl)), (JmpK AnyBit 2147483648 0 1, refl, refl)), (JmpK AnyBit 16777215 1 0, refl, refl)); last = (RetK 4294967295, refl, refl) }
