use Rattle.std.proofs.Common.{refl}
use Rattle.std.specs.Fmt.{digits}
use Rattle.bpf_insn.specs.Table.{form_of}
use Rattle.definitions_tried.proofs.Assembled.{assembled_arp, computes, jumps, moves, tests}
use Rattle.definitions_tried.proofs.texts.assembler_texts.Goals as goal

pub returns-clause-of_linux : goal.returns-clause-of_linux
returns-clause-of_linux c = assembled_arp

pub returns-clause-written : goal.returns-clause-written
unfolding digits form_of
returns-clause-written c = refl

pub returns-clause-jumps : goal.returns-clause-jumps
returns-clause-jumps c = jumps

pub returns-clause-moves : goal.returns-clause-moves
returns-clause-moves c = moves

pub returns-clause-computes : goal.returns-clause-computes
returns-clause-computes c = computes

pub returns-clause-tests : goal.returns-clause-tests
returns-clause-tests c = tests
