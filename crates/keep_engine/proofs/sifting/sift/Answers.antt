use Rattle.std.proofs.Common.{◌+◌, arith, drop, length-drop, take}
use Rattle.pcap_reader.proofs.FeedLemmas.{to_end}
use Rattle.keep_engine.proofs.RecordLemmas.{from_place, takes_next, takes_none}
use Rattle.keep_engine.proofs.sifting.sift.Goals as goal

pub loop-length-init : goal.loop-length-init
loop-length-init c = record { within = omega arith; so = takes_none _ _ _ _ _ }

pub loop-length-preserved : goal.loop-length-preserved
loop-length-preserved c =
    let is = rw (to_end c.loop-length.count c.args.bytes.now) at c.in-Record.ensures in
    let one = rw (to_end c.loop-length.count c.args.bytes.now, c.savefile_link.ensures) at c.in_ok-keep_one-in-Record.ensures in
    record {
      within = omega (arith, is.0, length-drop c.loop-length.count c.args.bytes.now, c.loop-length.invariant.within);
      so = takes_next _ _ _ _ _ (drop (c.loop-length.count + c.in-Record.length) c.args.bytes.now) (take c.in-Record.length (drop c.loop-length.count c.args.bytes.now)) _ _ _ c.in-Record.packet
          c.loop-length.invariant.so (from_place c.args.bytes.now c.loop-length.count c.in-Record.length) is.1 one;
    }
