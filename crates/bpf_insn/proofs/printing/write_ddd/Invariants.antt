use Rattle.std.proofs.Common.{◌≡◌, ◌++◌, drop, take}
use Rattle.std.specs.String.{string_bytes}
use Rattle.std.specs.List.{flat_map, All}
use Rattle.bpf_insn.specs.Table.{InRange}
use Rattle.bpf_insn.specs.DddText.{ddd_text, insn_line}
use Rattle.bpf_insn.proofs.printing.write_ddd.Given as goal

abbrev pub invariant-loop-insn : goal.invariant-loop-insn
invariant-loop-insn l = record {
  written : string_bytes l.text ++ flat_map insn_line (drop l.insn-index l.program) ≡ ddd_text l.program;
  ranges : All InRange (take l.insn-index l.program);
}
