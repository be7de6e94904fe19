use Rattle.std.proofs.Common.{arith, take}
use Rattle.std.proofs.lemmas.List.{take_all}
use Rattle.keep_engine.proofs.RecordLemmas.{takes_none, takes_whole}
use Rattle.keep_engine.proofs.sifting.take_whole.Goals as goal

pub returns-in_ok-keep_one-in-Record : goal.returns-in_ok-keep_one-in-Record
returns-in_ok-keep_one-in-Record c =
    let is = rw c.as_slice.ensures.value at c.in-Record.ensures in
    let one = rw (c.as_slice-in-Record.ensures.value, c.savefile_link.ensures) at c.in_ok-keep_one-in-Record.ensures in
    rw c.clear.ensures.items (takes_whole _ _ _ c.args.part.now.items (take c.in-Record.length c.args.part.now.items) _ _ c.in-Record.packet
    (take_all c.in-Record.length c.args.part.now.items (omega (arith, c.if-length-len.true, c.len.ensures, c.args.part.now.ok.0))) is.1 one)

pub returns-in_default : goal.returns-in_default
returns-in_default c = takes_none _ _ _ _ _

pub returns-in_default-2 : goal.returns-in_default-2
returns-in_default-2 c = takes_none _ _ _ _ _
