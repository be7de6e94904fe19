use Rattle.std.proofs.Common.{inl, inr}
use Rattle.filter_asm.proofs.FormedLemmas.{assembled_formed}
use Rattle.console.proofs.checking.read_assembler.Goals as goal

pub returns-in-Ok-clause-short : goal.returns-in-Ok-clause-short
returns-in-Ok-clause-short c = (assembled_formed c.args.text.now c.in-Ok.program.items c.in-Ok.ensures.found).0

pub returns-in_ok-fault_line-in-Err-clause-read : goal.returns-in_ok-fault_line-in-Err-clause-read
returns-in_ok-fault_line-in-Err-clause-read c =
    let line = c.in_ok-fault_line-in-Err.ensures in
    elim c.in-Err.ensures.refused [
      | inl memory ↦ absurd (line.0 memory)
      | inr refused ↦ (_, refused, line.1)
    ]
