use Rattle.std.proofs.Common.{length}
use Rattle.std.specs.Int.{w16, to_le_bytes}
use Rattle.std.proofs.lemmas.List.Elements.{All-more}
use Rattle.bpf_insn.specs.Table.{InRange}
use Rattle.monitor_messages.proofs.Programs.{more_bytes}
use Rattle.monitor_messages.proofs.writing.put_program.Goals as goal

pub loop-insn-preserved : goal.loop-insn-preserved
loop-insn-preserved c = record {
  bytes = more_bytes c.args.out.now.items (to_le_bytes w16 (length c.as_slice-code.result.now)) c.loop-insn.out.items c.put_insn.new.out.items c.as_slice-code.result.now c.loop-insn.insn-index _ c.loop-insn-test.true c.loop-insn.invariant.bytes c.in_ok-put_insn.ensures.bytes;
  fits = All-more InRange c.as_slice-code.result.now c.loop-insn.insn-index _ c.loop-insn-test.true c.loop-insn.invariant.fits c.in_ok-put_insn.ensures.fits;
}
