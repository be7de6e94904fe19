use Rattle.std.proofs.Common.{sym, ap, ◌∙◌, Some}
use Rattle.std.proofs.lemmas.Option.{slice_get-get_or}
use Rattle.core_machine.specs.Machines.{RingCore}
use Rattle.core_threads.proofs.Searches.{halted_at, none_halted_more, none_halted_all}
use Rattle.core_threads.proofs.ending.first_halt.Goals as goal

pub returns-in-Some : goal.returns-in-Some
returns-in-Some c =
    let at = slice_get-get_or c.args.ran.now c.loop-ran.ran-index c.ran-item.result c.loop-ran-test.true ∙ ap Some (sym c.ran-item.is) in
    halted_at c.args.ran.now c.loop-ran.ran-index _ c.ran-item.result _ c.requires at (c.number.ensures ∙ ap (λ (x : RingCore). x.number) c.core.ensures) c.in-Some.is c.loop-ran.invariant

pub loop-ran-preserved : goal.loop-ran-preserved
loop-ran-preserved c =
    let at = slice_get-get_or c.args.ran.now c.loop-ran.ran-index c.ran-item.result c.loop-ran-test.true ∙ ap Some (sym c.ran-item.is) in
    none_halted_more c.args.ran.now c.loop-ran.ran-index c.ran-item.result at c.in-None.is c.loop-ran.invariant

pub returns : goal.returns
returns c = none_halted_all c.args.ran.now c.loop-ran.ran-index c.loop-ran-test.false c.loop-ran.invariant
