use Rattle.std.proofs.Common.{refl, lit<, lit≤, arith, subst, [], ◌∷◌, ◌+◌}
use Rattle.bpf_insn.specs.declared.form.Form.TheVariants.{LdImm, LdAbs, LdInd, LdLen, LdxImm, LdxLen, LdxMsh}
use Rattle.bpf_insn.specs.declared.form.Size.TheVariants.{Word, Half, Byte}
use Rattle.bpf_insn.specs.Machine.{Does, Halts}
use Rattle.bpf_insn.specs.Program.{form_at}
use Rattle.bpf_insn.specs.Table.{form_of}
use Rattle.bpf_insn.proofs.Places.{FormAt-same}
use Rattle.definitions_tried.proofs.Kept.{not_below}
use Rattle.definitions_tried.specs.Codes.{BPF_LD, BPF_W, BPF_B, BPF_ABS, BPF_STMT}
use Rattle.definitions_tried.specs.Filters.{cut, at}
use Rattle.definitions_tried.proofs.filters.loads.Goals as goal

pub returns-clause-ld_imm : goal.returns-clause-ld_imm
unfolding form_at form_of
returns-clause-ld_imm c = (LdImm 4294967295, refl, refl)

pub returns-clause-ld_word_at_the_last_bytes : goal.returns-clause-ld_word_at_the_last_bytes
unfolding form_at form_of
returns-clause-ld_word_at_the_last_bytes c = (LdAbs Word 1, refl, (lit< tt, (16909125, (lit≤ tt, refl), refl)))

pub returns-clause-ld_word_one_past : goal.returns-clause-ld_word_one_past
unfolding form_at form_of
returns-clause-ld_word_one_past c = (LdAbs Word 2, refl, (lit< tt, refl))

pub returns-clause-ld_half_at_the_last_bytes : goal.returns-clause-ld_half_at_the_last_bytes
unfolding form_at form_of
returns-clause-ld_half_at_the_last_bytes c = (LdAbs Half 3, refl, (lit< tt, (837, (lit≤ tt, refl), refl)))

pub returns-clause-ld_half_one_past : goal.returns-clause-ld_half_one_past
unfolding form_at form_of
returns-clause-ld_half_one_past c = (LdAbs Half 4, refl, (lit< tt, refl))

pub returns-clause-ld_byte_at_the_last_byte : goal.returns-clause-ld_byte_at_the_last_byte
unfolding form_at form_of
returns-clause-ld_byte_at_the_last_byte c = (LdAbs Byte 4, refl, (lit< tt, (69, (lit≤ tt, refl), refl)))

pub returns-clause-ld_byte_one_past : goal.returns-clause-ld_byte_one_past
unfolding form_at form_of
returns-clause-ld_byte_one_past c = (LdAbs Byte 5, refl, (lit< tt, refl))

pub returns-clause-ld_word_from_the_first_byte : goal.returns-clause-ld_word_from_the_first_byte
unfolding form_at form_of
returns-clause-ld_word_from_the_first_byte c = (LdAbs Word 0, refl, (lit< tt, (4278256131, (lit≤ tt, refl), refl)))

pub returns-clause-ld_ancillary : goal.returns-clause-ld_ancillary
unfolding form_at form_of
returns-clause-ld_ancillary c = λ t s. let d = subst (λ f. Does cut f (at 0 7 9) t) (FormAt-same (BPF_STMT (BPF_LD + BPF_W + BPF_ABS) 0xfffff000 ∷ []) 0 s.0 (LdAbs Word 4294963200) s.1 refl) s.2 in let small = d.0 in absurd (omega arith)

pub returns-clause-ld_word_by_index_at_the_last_bytes : goal.returns-clause-ld_word_by_index_at_the_last_bytes
unfolding form_at form_of
returns-clause-ld_word_by_index_at_the_last_bytes c = (LdInd Word 1, refl, (16909125, (lit≤ tt, refl), refl))

pub returns-clause-ld_word_by_index_one_past : goal.returns-clause-ld_word_by_index_one_past
unfolding form_at form_of
returns-clause-ld_word_by_index_one_past c = (LdInd Word 1, refl, (lit< tt, refl))

pub returns-clause-ld_half_by_index_at_the_last_bytes : goal.returns-clause-ld_half_by_index_at_the_last_bytes
unfolding form_at form_of
returns-clause-ld_half_by_index_at_the_last_bytes c = (LdInd Half 1, refl, (837, (lit≤ tt, refl), refl))

pub returns-clause-ld_half_by_index_one_past : goal.returns-clause-ld_half_by_index_one_past
unfolding form_at form_of
returns-clause-ld_half_by_index_one_past c = (LdInd Half 2, refl, (lit< tt, refl))

pub returns-clause-ld_byte_by_index_at_the_last_byte : goal.returns-clause-ld_byte_by_index_at_the_last_byte
unfolding form_at form_of
returns-clause-ld_byte_by_index_at_the_last_byte c = (LdInd Byte 0, refl, (69, (lit≤ tt, refl), refl))

pub returns-clause-ld_byte_by_index_one_past : goal.returns-clause-ld_byte_by_index_one_past
unfolding form_at form_of
returns-clause-ld_byte_by_index_one_past c = (LdInd Byte 1, refl, (lit< tt, refl))

pub returns-clause-ld_by_index_does_not_wrap : goal.returns-clause-ld_by_index_does_not_wrap
unfolding form_at form_of
returns-clause-ld_by_index_does_not_wrap c = (LdInd Byte 4294967295, refl, (lit< tt, refl))

pub returns-clause-ld_len_is_the_original : goal.returns-clause-ld_len_is_the_original
unfolding form_at form_of
returns-clause-ld_len_is_the_original c = (LdLen, refl, refl)

pub returns-clause-ldx_imm : goal.returns-clause-ldx_imm
unfolding form_at form_of
returns-clause-ldx_imm c = (LdxImm 4294967295, refl, refl)

pub returns-clause-ldx_len_is_the_original : goal.returns-clause-ldx_len_is_the_original
unfolding form_at form_of
returns-clause-ldx_len_is_the_original c = (LdxLen, refl, refl)

pub returns-clause-ldx_msh_of_the_last_byte : goal.returns-clause-ldx_msh_of_the_last_byte
unfolding form_at form_of
returns-clause-ldx_msh_of_the_last_byte c = (LdxMsh 4, refl, (69, (lit≤ tt, refl), refl))

pub returns-clause-ldx_msh_is_60_at_most : goal.returns-clause-ldx_msh_is_60_at_most
unfolding form_at form_of
returns-clause-ldx_msh_is_60_at_most c = (LdxMsh 0, refl, (255, (lit≤ tt, refl), refl))

pub returns-clause-ldx_msh_one_past : goal.returns-clause-ldx_msh_one_past
unfolding form_at form_of
returns-clause-ldx_msh_one_past c = (LdxMsh 5, refl, (lit< tt, refl))

pub returns-clause-ld_byte_at_the_last_byte_goes_on : goal.returns-clause-ld_byte_at_the_last_byte_goes_on
unfolding form_at form_of
returns-clause-ld_byte_at_the_last_byte_goes_on c = λ s. let d = subst (λ f. Halts cut f (at 0 7 9) 0) (FormAt-same (BPF_STMT (BPF_LD + BPF_B + BPF_ABS) 4 ∷ []) 0 s.0 (LdAbs Byte 4) s.1 refl) s.2 in not_below 5 5 (lit≤ tt) d.0
