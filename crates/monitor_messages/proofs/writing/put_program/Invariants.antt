use Rattle.std.proofs.Common.{◌≡◌, ◌++◌, All, length, take}
use Rattle.std.specs.Int.{w16, to_le_bytes}
use Rattle.std.specs.List.{flat_map}
use Rattle.bpf_insn.specs.Table.{InRange, bytes_of}
use Rattle.monitor_messages.proofs.writing.put_program.Given as goal

abbrev pub invariant-loop-insn : goal.invariant-loop-insn
invariant-loop-insn l = record {
  bytes : l.out.items ≡ l.fn.out.items ++ (to_le_bytes w16 (length l.code) ++ flat_map bytes_of (take l.insn-index l.code));
  fits : All InRange (take l.insn-index l.code);
}
