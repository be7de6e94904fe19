use Rattle.std.proofs.Common.{◌++◌, [], List, refl, subst, sym}
use Rattle.std.proofs.Common.{take, drop, arith, ◌+◌}
use Rattle.std.proofs.lemmas.List.{take_all}
use Rattle.engine_io.specs.Devices.{Writes}
use Rattle.sim_engine.specs.Simulations.{Performs, just, sim}
use Rattle.sim_engine.proofs.Printed.{Printed, printed_one, printed_wrote, halves, on_ok}
use Rattle.sim_engine.proofs.Places.{get_at}
use Rattle.mk_script.specs.declared.script.Item.{Item}
use Rattle.sim_engine.proofs.running.perform_all.Goals as goal
use Rattle.filter_table.proofs.Lists.{take_at}
use Rattle.engine_io.proofs.KnownBytesLemmas.{writes-nothing, writes-then}

pub returns-in_err-requests-clause-part : goal.returns-in_err-requests-clause-part
returns-in_err-requests-clause-part g c = λ failed. ([], c.args.items.now, refl, just c.args.world.now, [], [], (refl, refl), writes-nothing c.args.writer.now)

pub returns-in_err-perform-clause-part : goal.returns-in_err-perform-clause-part
returns-in_err-perform-clause-part g c = λ failed. (take c.loop-item.item-index c.args.items.now, drop c.loop-item.item-index c.args.items.now, halves c.args.items.now c.loop-item.item-index, sim c.loop-item.world c.loop-item.requests, c.loop-item.invariant.printed.written, c.loop-item.text.items, c.loop-item.invariant.printed.performs, c.loop-item.invariant.printed.appends)

pub loop-item-preserved : goal.loop-item-preserved
loop-item-preserved g c =
    let e = c.in_ok-perform.ensures in
    let at = get_at c.args.items.now c.loop-item.item-index c.item-item.result (omega (arith, c.loop-item-test.true)) c.item-item.is in
    let one = printed_one (just c.args.world.now) (sim c.loop-item.world c.loop-item.requests) (sim c.perform.new.world c.perform.new.requests) (take c.loop-item.item-index c.args.items.now) c.item-item.result
    c.args.writer.now c.loop-item.writer c.loop-item.text.items c.perform.new.text.items e.0 c.loop-item.invariant.printed e.1 e.2 in
    record {
      good = c.in_ok-write_block.ensures.good;
      printed = printed_wrote (just c.args.world.now) (sim c.perform.new.world c.perform.new.requests) (take (c.loop-item.item-index + 1) c.args.items.now) c.args.writer.now c.loop-item.writer
          c.write_block.new.writer c.perform.new.text.items c.write_block.new.text.items
          (subst (λ (done : List Item). Printed (just c.args.world.now) done (sim c.perform.new.world c.perform.new.requests) g.W.Write.contents c.args.writer.now c.loop-item.writer c.perform.new.text.items)
          (sym (take_at c.args.items.now c.loop-item.item-index c.item-item.result at)) one)
          c.in_ok-write_block.ensures.written;
    }

pub returns-clause-shown : goal.returns-clause-shown
returns-clause-shown g c =
    on_ok c.write_bytes.result c.write_bytes.ensures.written (λ wrote. (
      sim c.loop-item.world c.loop-item.requests,
      c.loop-item.invariant.printed.written ++ c.loop-item.text.items,
      subst (λ (done : List Item). Performs (just c.args.world.now) done (sim c.loop-item.world c.loop-item.requests) (c.loop-item.invariant.printed.written ++ c.loop-item.text.items))
          (take_all c.loop-item.item-index c.args.items.now (omega (arith, c.loop-item-test.false))) c.loop-item.invariant.printed.performs,
      writes-then c.args.writer.now c.loop-item.writer c.write_bytes.new.writer c.loop-item.invariant.printed.written c.loop-item.text.items c.loop-item.invariant.printed.appends
          (subst (Writes g.W.Write.contents c.loop-item.writer c.write_bytes.new.writer) c.as_slice.ensures.value wrote),
    ))
