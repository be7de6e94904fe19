use Rattle.filter_vm.proofs.Memory.{get-insert_same}
use Rattle.std.proofs.Common.{refl, lit<, arith, subst, [], ◌∷◌, ◌+◌}
use Rattle.std.specs.FinMap.{empty}
use Rattle.bpf_insn.specs.declared.form.Form.TheVariants.{LdMem, LdxMem, St, Stx, Tax, Txa}
use Rattle.bpf_insn.specs.Machine.{Does}
use Rattle.bpf_insn.specs.Program.{form_at}
use Rattle.bpf_insn.specs.Table.{form_of}
use Rattle.bpf_insn.proofs.Places.{FormAt-same}
use Rattle.definitions_tried.specs.Codes.{BPF_LD, BPF_ST, BPF_MEM, BPF_STMT}
use Rattle.definitions_tried.proofs.Kept.{empty-lacks}
use Rattle.definitions_tried.specs.Filters.{nothing, at}
use Rattle.definitions_tried.proofs.filters.words.Goals as goal

pub returns-clause-st_the_last_word : goal.returns-clause-st_the_last_word
unfolding form_at form_of
returns-clause-st_the_last_word c = (St 15, refl, (lit< tt, refl))

pub returns-clause-stx_the_first_word : goal.returns-clause-stx_the_first_word
unfolding form_at form_of
returns-clause-stx_the_first_word c = (Stx 0, refl, (lit< tt, refl))

pub returns-clause-ld_mem : goal.returns-clause-ld_mem
unfolding form_at form_of
returns-clause-ld_mem c = (LdMem 15, refl, (lit< tt, (4294967295, get-insert_same empty 15 4294967295, refl)))

pub returns-clause-ldx_mem : goal.returns-clause-ldx_mem
unfolding form_at form_of
returns-clause-ldx_mem c = (LdxMem 0, refl, (lit< tt, (4294967295, get-insert_same empty 0 4294967295, refl)))

pub returns-clause-no_word_16 : goal.returns-clause-no_word_16
unfolding form_at form_of
returns-clause-no_word_16 c = λ t s. let d = subst (λ f. Does nothing f (at 0 7 9) t) (FormAt-same (BPF_STMT (BPF_ST) 16 ∷ []) 0 s.0 (St 16) s.1 refl) s.2 in let small = d.0 in absurd (omega arith)

pub returns-clause-no_unwritten_word : goal.returns-clause-no_unwritten_word
unfolding form_at form_of
returns-clause-no_unwritten_word c = λ t s. let d = subst (λ f. Does nothing f (at 0 7 9) t) (FormAt-same (BPF_STMT (BPF_LD + BPF_MEM) 3 ∷ []) 0 s.0 (LdMem 3) s.1 refl) s.2 in empty-lacks 3 d.1.0 d.1.1

pub returns-clause-tax : goal.returns-clause-tax
unfolding form_at form_of
returns-clause-tax c = (Tax, refl, refl)

pub returns-clause-txa : goal.returns-clause-txa
unfolding form_at form_of
returns-clause-txa c = (Txa, refl, refl)
