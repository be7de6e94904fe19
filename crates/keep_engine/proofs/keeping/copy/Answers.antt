use Rattle.std.proofs.Common.{arith, inl, inr, length-take-le, refl}
use Rattle.engine_io.proofs.KnownBytesLemmas.{gets-end}
use Rattle.console.proofs.StreamLemmas.{keeps_itself}
use Rattle.console.specs.Programs.{programs_of}
use Rattle.keep_engine.specs.Keeping.{text_of}
use Rattle.keep_engine.proofs.CopyLemmas.{copied_kept, copied_none, copied_next, few_enough, few_more, left_kept, left_read, left_wrote, stopped_at, take_few, taken_next}
use Rattle.keep_engine.proofs.keeping.copy.Goals.{in-Bytes+in_ok-piece-in-Bytes+in_ok-write_bytes-in-Bytes+in_default+else-has_stopped, in-Again}
use Rattle.keep_engine.proofs.keeping.copy.Goals as goal

pub loop-turn-init : goal.loop-turn-init
loop-turn-init g c = record {
  so = copied_none _ _ _ _ _ c.requires.fresh.1 (c.new-sieve.ensures _ _);
  left = omega (arith, c.requires.fresh.0);
  few = omega (arith, c.requires.fresh.1);
  open_end = c.requires.fresh.2;
  good = c.requires.good;
  none = c.new-kept.ensures.bytes;
  going = c.new-kept.ensures.stop;
}

pub returns-in-End-clause-kept : goal.returns-in-End-clause-kept
returns-in-End-clause-kept g c =
    let so = c.loop-turn.invariant.so in (
      so.input,
      gets-end _ _ _ so.input so.lost c.in-End.ensures.1,
      text_of so.kept,
      so.appended,
      (so.kept, refl, c.ending.ensures.keeps (programs_of c.args.filter.now) c.args.wanted so.input so.kept so.has (omega (arith, c.taken.ensures, c.in-End.ensures.0.1, so.count)), so.going),
      inl c.in-End.ensures.2,
    )

pub returns-in_err-piece-in-Bytes-clause-left : goal.returns-in_err-piece-in-Bytes-clause-left
returns-in_err-piece-in-Bytes-clause-left g c = left_read c.from_residual.result _ _ _ _ _ _ _ _ _ c.loop-turn.invariant.so c.in-Bytes.ensures.3

pub returns-in_err-write_bytes-in-Bytes-clause-left : goal.returns-in_err-write_bytes-in-Bytes-clause-left
returns-in_err-write_bytes-in-Bytes-clause-left g c =
    left_wrote c.from_residual-in_err-write_bytes-in-Bytes.result _ _ _ _ _ _ _ _ _ _ _ c.loop-turn.kept c.piece.new.kept c.loop-turn.invariant.so c.in-Bytes.ensures.3 (omega (arith, c.in-Bytes.ensures.0.1, length-take-le c.in-Bytes.count c.read.new.buffer c.in-Bytes.ensures.2)) (few_enough _ _ c.in-Bytes.count c.loop-turn._turn c.room.result c.loop-turn.invariant.few (omega (arith, c.in-Bytes.ensures.2, take_few c.room.result c.loop-turn.block)) c.room.ensures.most (rw c.taken.ensures at c.room.ensures.small) c.in-Bytes.ensures.0.1 c.loop-turn-test.true)
    c.loop-turn.invariant.none c.loop-turn.invariant.going c.in_ok-piece-in-Bytes.ensures
    (rw c.as_slice.ensures.value at c.in_err-write_bytes-in-Bytes.ensures.front)

pub returns-in-Some-clause-kept : goal.returns-in-Some-clause-kept
returns-in-Some-clause-kept g c =
    let so = taken_next _ _ _ _ _ _ _ _ _ _ _ c.loop-turn.kept c.piece.new.kept c.in-Bytes.count c.loop-turn.invariant.so c.in-Bytes.ensures.3 c.in-Bytes.ensures.0.1
    (length-take-le c.in-Bytes.count c.read.new.buffer c.in-Bytes.ensures.2) (few_enough _ _ c.in-Bytes.count c.loop-turn._turn c.room.result c.loop-turn.invariant.few (omega (arith, c.in-Bytes.ensures.2, take_few c.room.result c.loop-turn.block)) c.room.ensures.most (rw c.taken.ensures at c.room.ensures.small) c.in-Bytes.ensures.0.1 c.loop-turn-test.true) c.loop-turn.invariant.none c.loop-turn.invariant.going c.in_ok-piece-in-Bytes.ensures (rw c.as_slice.ensures.value at c.in_ok-write_bytes-in-Bytes.ensures.written) in
    (so.input, so.lost, text_of so.kept, so.appended, stopped_at _ _ _ _ _ _ _ _ c.in-Some.fault c.in-Some.is so, inr tt)

pub returns-then-has_stopped-clause-kept : goal.returns-then-has_stopped-clause-kept
returns-then-has_stopped-clause-kept g c =
    let so = copied_next _ _ _ _ _ _ _ _ c.in_default.is (taken_next _ _ _ _ _ _ _ _ _ _ _ c.loop-turn.kept c.piece.new.kept c.in-Bytes.count c.loop-turn.invariant.so c.in-Bytes.ensures.3 c.in-Bytes.ensures.0.1
    (length-take-le c.in-Bytes.count c.read.new.buffer c.in-Bytes.ensures.2) (few_enough _ _ c.in-Bytes.count c.loop-turn._turn c.room.result c.loop-turn.invariant.few (omega (arith, c.in-Bytes.ensures.2, take_few c.room.result c.loop-turn.block)) c.room.ensures.most (rw c.taken.ensures at c.room.ensures.small) c.in-Bytes.ensures.0.1 c.loop-turn-test.true) c.loop-turn.invariant.none c.loop-turn.invariant.going c.in_ok-piece-in-Bytes.ensures (rw c.as_slice.ensures.value at c.in_ok-write_bytes-in-Bytes.ensures.written)) in (
      so.input,
      so.lost,
      text_of so.kept,
      so.appended,
      (so.kept, refl, c.ending-then-has_stopped.ensures.keeps (programs_of c.args.filter.now) c.args.wanted so.input so.kept so.has (omega (arith, c.taken-then-has_stopped.ensures, so.count)), so.going),
      inr (c.ending-then-has_stopped.ensures.stopped (c.has_stopped.ensures c.if-has_stopped.true)),
    )

pub returns-in-Failed-clause-left : goal.returns-in-Failed-clause-left
returns-in-Failed-clause-left g c = left_kept _ _ _ _ _ _ _ _ c.loop-turn.invariant.so c.in-Failed.ensures.1

pub loop-turn-preserved : goal.loop-turn-preserved
loop-turn-preserved g c = elim c.match-read.branch [
  | in-Bytes+in_ok-piece-in-Bytes+in_ok-write_bytes-in-Bytes+in_default+else-has_stopped w ↦ rw (w.writer-is, w.sieve-is, w.kept-is) (record {
    so = copied_next _ _ _ _ _ _ _ _ w.in_default.is (taken_next _ _ _ _ _ _ _ _ _ _ _ c.loop-turn.kept w.piece.new.kept w.in-Bytes.count c.loop-turn.invariant.so w.in-Bytes.ensures.3 w.in-Bytes.ensures.0.1
        (length-take-le w.in-Bytes.count c.read.new.buffer w.in-Bytes.ensures.2) (few_enough _ _ w.in-Bytes.count c.loop-turn._turn c.room.result c.loop-turn.invariant.few (omega (arith, w.in-Bytes.ensures.2, take_few c.room.result c.loop-turn.block)) c.room.ensures.most (rw c.taken.ensures at c.room.ensures.small) w.in-Bytes.ensures.0.1 c.loop-turn-test.true) c.loop-turn.invariant.none c.loop-turn.invariant.going w.in_ok-piece-in-Bytes.ensures (rw w.as_slice.ensures.value at w.in_ok-write_bytes-in-Bytes.ensures.written));
    left = omega (arith, w.in-Bytes.ensures.0.0, c.loop-turn.invariant.left);
    few = few_more _ _ w.in-Bytes.count c.loop-turn._turn c.room.result c.loop-turn.invariant.few (omega (arith, w.in-Bytes.ensures.2, take_few c.room.result c.loop-turn.block)) c.room.ensures.most (rw c.taken.ensures at c.room.ensures.small) w.in-Bytes.ensures.0.1;
    open_end = (w.in-Bytes.ensures.0.2, w.in-Bytes.ensures.0.3);
    good = w.in_ok-write_bytes-in-Bytes.ensures.good;
    none = w.clear.ensures.items;
    going = w.in_default.is;
  })
  | in-Again w ↦ rw (w.writer-is, w.sieve-is, w.kept-is) (record {
    so = copied_kept _ _ _ _ _ _ _ _ c.loop-turn.invariant.so w.in-Again.ensures.1 w.in-Again.ensures.0.1;
    left = omega (arith, w.in-Again.ensures.0.0, c.loop-turn.invariant.left);
    few = omega (arith, w.in-Again.ensures.0.1, c.loop-turn.invariant.few);
    open_end = (w.in-Again.ensures.0.2, w.in-Again.ensures.0.3);
    good = c.loop-turn.invariant.good;
    none = c.loop-turn.invariant.none;
    going = c.loop-turn.invariant.going;
  })
]

pub returns-clause-left : goal.returns-clause-left
returns-clause-left g c = left_kept _ _ _ _ _ _ _ _ c.loop-turn.invariant.so (keeps_itself _)
