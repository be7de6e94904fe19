use Rattle.std.proofs.Common.{refl, arith}
use Rattle.bpf_insn.proofs.PrintsLemmas.{farther}
use Rattle.bpf_insn.proofs.jumps.farthest_target.Goals as goal

pub returns-in-Ja : goal.returns-in-Ja
returns-in-Ja c = rw c.in-Ja.is (refl, λ to at. omega arith)

pub returns-in-JmpK : goal.returns-in-JmpK
returns-in-JmpK c = rw (c.in-JmpK.is, c.from.ensures, c.max.ensures) (farther c.args.pc c.in-JmpK.jt c.in-JmpK.jf)

pub returns-in-JmpX : goal.returns-in-JmpX
returns-in-JmpX c = rw (c.in-JmpX.is, c.from-in-JmpX.ensures, c.max-in-JmpX.ensures) (farther c.args.pc c.in-JmpX.jt c.in-JmpX.jf)
