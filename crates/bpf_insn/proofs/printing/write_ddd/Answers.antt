use Rattle.std.proofs.Common.{◌≡◌, ap, ◌∙◌}
use Rattle.std.proofs.lemmas.List.Elements.{All-more}
use Rattle.bpf_insn.specs.Table.{InRange}
use Rattle.bpf_insn.specs.DddText.{ddd_text}
use Rattle.bpf_insn.proofs.DddTextLemmas.{line_written, all_written, written_spells}
use Rattle.bpf_insn.proofs.printing.write_ddd.Goals as goal

pub loop-insn-preserved : goal.loop-insn-preserved
loop-insn-preserved c = record {
  written = line_written _ _ _ _ _ _ c.loop-insn-test.true (c.in_ok-push_insn.ensures.written) c.loop-insn.invariant.written;
  ranges = All-more InRange c.args.program.now c.loop-insn.insn-index _ c.loop-insn-test.true c.loop-insn.invariant.ranges c.push_insn.ensures.range;
}

pub returns-clause-spells : goal.returns-clause-spells
returns-clause-spells c =
    let text : c.into_bytes.result.items ≡ ddd_text c.args.program.now = ap (λ v. v.items) c.into_bytes.ensures.value ∙ all_written _ _ _ _ c.loop-insn-test.false c.loop-insn.invariant.written in
    written_spells _ _ _ c.loop-insn-test.false text c.loop-insn.invariant.ranges
