use Rattle.std.proofs.Common.{[], arith, rules, refl}
use Rattle.console.proofs.PrintingLemmas.{on_err}
use Rattle.console.proofs.StreamingLemmas.{no_bytes}
use Rattle.console.proofs.StreamLemmas.{keeps_itself, taken_bytes}
use Rattle.console.proofs.DumpStreamLemmas.{dumped_kept, dumped_more, dumped_none, end_left, end_shown, left_kept, left_read, left_wrote}
use Rattle.console.proofs.dump_stream.run_dump_stream.Goals.{in-Bytes+in_ok-print_piece-in-Bytes+in_ok-write_bytes-in-Bytes, in-Again}
use Rattle.console.proofs.dump_stream.run_dump_stream.Goals as goal

pub loop-turn-init : goal.loop-turn-init
loop-turn-init g c = record {
  so = dumped_none _ _ _ _ _ _ c.new-feed.ensures.holds refl refl;
  left = search rules;
  few = search rules;
  open_end = search rules;
  good = search rules;
  empty = search rules;
}

pub returns-in_err-fault-in-End-clause-left : goal.returns-in_err-fault-in-End-clause-left
returns-in_err-fault-in-End-clause-left g c = on_err c.from_residual.result _ (left_read c.args.link c.args.stamped _ _ _ _ _ _ _ _ [] c.loop-turn.invariant.so c.in-End.ensures.1 no_bytes)

pub returns-in-End-clause-shown : goal.returns-in-End-clause-shown
returns-in-End-clause-shown g c =
    end_shown c.write_ending.result c.args.link c.args.stamped _ _ _ _ _ _ _ _ _ c.in_ok-fault-in-End.fault c.loop-turn.invariant.so c.in-End.ensures.1 c.in-End.ensures.2 c.in_ok-fault-in-End.ensures
    (rw c.new.ensures.bytes at c.write_ending.ensures.shown)

pub returns-in-End-clause-left : goal.returns-in-End-clause-left
returns-in-End-clause-left g c =
    end_left c.write_ending.result c.args.link c.args.stamped _ _ _ _ _ _ _ _ _ c.in_ok-fault-in-End.fault c.loop-turn.invariant.so c.in-End.ensures.1 c.in_ok-fault-in-End.ensures
    (rw c.new.ensures.bytes at c.write_ending.ensures.front)

pub returns-in_err-print_piece-in-Bytes-clause-left : goal.returns-in_err-print_piece-in-Bytes-clause-left
returns-in_err-print_piece-in-Bytes-clause-left g c =
    on_err c.from_residual-in_err-print_piece-in-Bytes.result _ (left_read c.args.link c.args.stamped _ _ _ _ _ _ _ _ _ c.loop-turn.invariant.so c.in-Bytes.ensures.3 c.print_piece.ensures.bytes)

pub returns-in_err-write_bytes-in-Bytes-clause-left : goal.returns-in_err-write_bytes-in-Bytes-clause-left
returns-in_err-write_bytes-in-Bytes-clause-left g c =
    let front = rw c.as_slice.ensures.value at c.in_err-write_bytes-in-Bytes.ensures.front in
    on_err c.from_residual-in_err-write_bytes-in-Bytes.result _
    (left_wrote c.args.link c.args.stamped _ _ _ _ _ _ _ _ _ _ _ _ _ _ c.loop-turn.invariant.so c.in-Bytes.ensures.3 c.print_piece.ensures.bytes
    (taken_bytes c.in-Bytes.count c.read.new.buffer c.in-Bytes.ensures.2 (omega arith)) c.loop-turn-test.true (rw c.loop-turn.invariant.empty at c.in_ok-print_piece-in-Bytes.ensures.prints) front.1 front.2)

pub returns-in-Failed-clause-left : goal.returns-in-Failed-clause-left
returns-in-Failed-clause-left g c = left_kept c.args.link c.args.stamped _ _ _ _ _ _ _ _ c.loop-turn.invariant.so c.in-Failed.ensures.1

pub returns-clause-left : goal.returns-clause-left
returns-clause-left g c = left_kept c.args.link c.args.stamped _ _ _ _ _ _ _ _ c.loop-turn.invariant.so (keeps_itself _)

pub loop-turn-preserved : goal.loop-turn-preserved
loop-turn-preserved g c = elim c.match-read.branch [
  | in-Bytes+in_ok-print_piece-in-Bytes+in_ok-write_bytes-in-Bytes w ↦
      let wrote = rw w.as_slice.ensures.value at w.in_ok-write_bytes-in-Bytes.ensures.written in
      rw (w.feed-is, w.place-is, w.text-is, w.writer-is) (record {
        so = dumped_more c.args.link c.args.stamped _ _ _ _ _ _ _ _ _ _ _ _ _ c.loop-turn.invariant.so w.in-Bytes.ensures.3 w.print_piece.ensures.bytes
            (taken_bytes w.in-Bytes.count c.read.new.buffer w.in-Bytes.ensures.2 (omega arith)) c.loop-turn-test.true (rw c.loop-turn.invariant.empty at w.in_ok-print_piece-in-Bytes.ensures.prints) wrote;
        left = omega (arith, w.in-Bytes.ensures.0.0, c.loop-turn.invariant.left);
        few = omega (arith, w.in-Bytes.ensures.0.1, w.in-Bytes.ensures.2, c.loop-turn.invariant.few);
        open_end = (w.in-Bytes.ensures.0.2, w.in-Bytes.ensures.0.3);
        good = w.in_ok-write_bytes-in-Bytes.ensures.good;
        empty = w.clear.ensures.items;
      })
  | in-Again w ↦ rw (w.feed-is, w.place-is, w.text-is, w.writer-is) (record {
    so = dumped_kept c.args.link c.args.stamped _ _ _ _ _ _ _ _ c.loop-turn.invariant.so w.in-Again.ensures.1;
    left = omega (arith, w.in-Again.ensures.0.0, c.loop-turn.invariant.left);
    few = omega (arith, w.in-Again.ensures.0.1, c.loop-turn.invariant.few);
    open_end = (w.in-Again.ensures.0.2, w.in-Again.ensures.0.3);
    good = c.loop-turn.invariant.good;
    empty = c.loop-turn.invariant.empty;
  })
]
