use Rattle.std.proofs.Common.{◌∙◌, ◌*◌, ℕ, List, Some, ap, sym, arith}
use Rattle.std.proofs.lemmas.Option.{same_Some}
use Rattle.bpf_insn.specs.declared.insn.Insn.{Insn}
use Rattle.monitor_messages.specs.Reading.{insn_at}
use Rattle.monitor_messages.proofs.CodedPrograms.{insns_count, read_there, rest_there, no_fault}
use Rattle.monitor_messages.proofs.loaded.CodedProgramCode.insn.Goals as goal

pub overflow_mul-pc : goal.overflow_mul-pc
overflow_mul-pc c = let count = insns_count c.args.self.bytes.now in let inside = c.requires in let long = c.ranges.self.0 in omega arith

pub slice_bounds-insn_at-count : goal.slice_bounds-insn_at-count
slice_bounds-insn_at-count c = let count = insns_count c.args.self.bytes.now in let inside = c.requires in omega arith

pub slice_bounds-insn_at-start : goal.slice_bounds-insn_at-start
slice_bounds-insn_at-start c = let count = insns_count c.args.self.bytes.now in let inside = c.requires in omega arith

pub unreachable-requires : goal.unreachable-requires
unreachable-requires c =
    let bytes = c.args.self.bytes.now in
    let there = read_there c.args.pc bytes c.requires in
    no_fault c.in-Err.field-0 _ (there.0, there.1) c.in-Err.ensures (ap insn_at (rest_there (8 * c.args.pc) bytes) ∙ there.2)

pub returns : goal.returns
returns c =
    let bytes = c.args.self.bytes.now in
    let there = read_there c.args.pc bytes c.requires in
    let read = sym c.in-Ok.ensures ∙ (ap insn_at (rest_there (8 * c.args.pc) bytes) ∙ there.2) in
    there.3 ∙ ap (λ (insn : Insn). Some insn) (sym (ap (λ (x : Insn × List ℕ). x.0) (same_Some (c.in-Ok.insn, c.in-Ok.field-0-1.now) (there.0, there.1) read)))
