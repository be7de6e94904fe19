use Rattle.std.proofs.Common.{[], arith, true, inl, inr, refl, sym, ◌∙◌}
use Rattle.console.specs.Streaming.{SourceEnded}
use Rattle.engine_io.proofs.DeviceLemmas.{ends_refused, ends_writing, ends_written}
use Rattle.console.proofs.StreamingLemmas.{no_bytes}
use Rattle.console.proofs.StreamLemmas.{RanOrStopped, left_read, left_kept, keeps_itself, streamed_kept, took, showed, either_run, either_shown, ended_shown, left_took, left_showed, streamed_next, end_shown, end_well, end_left, found_shown, taken_bytes}
use Rattle.console.proofs.streaming.stream.Goals.{in-Bytes+in_ok-stopped-in-Bytes+in_ok-show-in-Bytes+else-is_done+else-stopped, in-Again}
use Rattle.console.specs.Programs.{programs_of}
use Rattle.console.proofs.streaming.stream.Goals as goal

pub returns-in_err-stopped-in-End-clause-left : goal.returns-in_err-stopped-in-End-clause-left
returns-in_err-stopped-in-End-clause-left g c =
    left_read c.from_residual.result c.args.view _ _ _ _ _ _ _ _ _ _ [] c.loop-turn.invariant.so c.in-End.ensures.1 no_bytes

pub returns-in_err-show-in-End-clause-left : goal.returns-in_err-show-in-End-clause-left
returns-in_err-show-in-End-clause-left g c =
    let so = took c.args.view (SourceEnded (programs_of c.args.filter.now) c.in_ok-stopped-in-End.stopped) _ _ _ _ _ _ _ _ _ _ _ [] _ _ c.loop-turn.stamps.items c.loop-turn.stamps.items c.loop-turn.invariant.so c.in-End.ensures.1
    (omega arith) c.loop-turn-test.true c.loop-turn.invariant.none c.loop-turn.invariant.no_times (λ _. refl) (c.in_ok-stopped-in-End.ensures.runs c.loop-turn.stamps.items) c.finish.ensures.form c.finish.ensures.stamped in
    left_took c.from_residual-in_err-show-in-End.result c.args.view _ (programs_of c.args.filter.now) _ _ _ _ _ _ _ _ _ _ _ so
    (λ input outcomes stamps has. ended_shown (programs_of c.args.filter.now) c.in_ok-stopped-in-End.stopped input _ outcomes stamps has)
    (rw (c.as_slice.ensures.value, c.as_slice-in-End.ensures.value) at c.in_err-show-in-End.ensures.front)

pub returns-in_err-ending-in-End-clause-left : goal.returns-in_err-ending-in-End-clause-left
returns-in_err-ending-in-End-clause-left g c =
    let so = took c.args.view (SourceEnded (programs_of c.args.filter.now) c.in_ok-stopped-in-End.stopped) _ _ _ _ _ _ _ _ _ _ _ [] _ _ c.loop-turn.stamps.items c.loop-turn.stamps.items c.loop-turn.invariant.so c.in-End.ensures.1
    (omega arith) c.loop-turn-test.true c.loop-turn.invariant.none c.loop-turn.invariant.no_times (λ _. refl) (c.in_ok-stopped-in-End.ensures.runs c.loop-turn.stamps.items) c.finish.ensures.form c.finish.ensures.stamped in
    let all = showed c.args.view _ _ _ _ _ _ _ _ c.loop-turn.tally c.show.new.self _ _ _ so (rw (c.as_slice.ensures.value, c.as_slice-in-End.ensures.value) at c.in_ok-show-in-End.ensures.shown) (rw c.as_slice.ensures.value at c.in_ok-show-in-End.ensures.counted) in
    left_showed c.from_residual-in_err-ending-in-End.result c.args.view _ (programs_of c.args.filter.now) _ _ _ _ _ _ _ _ all
    (λ input outcomes stamps has. ended_shown (programs_of c.args.filter.now) c.in_ok-stopped-in-End.stopped input _ outcomes stamps has)

pub returns-in-End-clause-shown : goal.returns-in-End-clause-shown
returns-in-End-clause-shown g c =
    let so = took c.args.view (SourceEnded (programs_of c.args.filter.now) c.in_ok-stopped-in-End.stopped) _ _ _ _ _ _ _ _ _ _ _ [] _ _ c.loop-turn.stamps.items c.loop-turn.stamps.items c.loop-turn.invariant.so c.in-End.ensures.1
    (omega arith) c.loop-turn-test.true c.loop-turn.invariant.none c.loop-turn.invariant.no_times (λ _. refl) (c.in_ok-stopped-in-End.ensures.runs c.loop-turn.stamps.items) c.finish.ensures.form c.finish.ensures.stamped in
    let all = showed c.args.view _ _ _ _ _ _ _ _ c.loop-turn.tally c.show.new.self _ _ _ so (rw (c.as_slice.ensures.value, c.as_slice-in-End.ensures.value) at c.in_ok-show-in-End.ensures.shown) (rw c.as_slice.ensures.value at c.in_ok-show-in-End.ensures.counted) in
    end_shown c.finish-in-End.result c.args.view (programs_of c.args.filter.now) c.in_ok-stopped-in-End.stopped _ _ _ _ _ _ _ c.show.new.self _ c.in_ok-ending-in-End.ending all (omega (arith, c.loop-turn-test.true))
    (inl c.in-End.ensures.2) c.in_ok-ending-in-End.ensures.ends c.in_ok-ending-in-End.ensures.status c.finish-in-End.ensures.shown

pub returns-in-End-clause-left : goal.returns-in-End-clause-left
returns-in-End-clause-left g c =
    let so = took c.args.view (SourceEnded (programs_of c.args.filter.now) c.in_ok-stopped-in-End.stopped) _ _ _ _ _ _ _ _ _ _ _ [] _ _ c.loop-turn.stamps.items c.loop-turn.stamps.items c.loop-turn.invariant.so c.in-End.ensures.1
    (omega arith) c.loop-turn-test.true c.loop-turn.invariant.none c.loop-turn.invariant.no_times (λ _. refl) (c.in_ok-stopped-in-End.ensures.runs c.loop-turn.stamps.items) c.finish.ensures.form c.finish.ensures.stamped in
    let all = showed c.args.view _ _ _ _ _ _ _ _ c.loop-turn.tally c.show.new.self _ _ _ so (rw (c.as_slice.ensures.value, c.as_slice-in-End.ensures.value) at c.in_ok-show-in-End.ensures.shown) (rw c.as_slice.ensures.value at c.in_ok-show-in-End.ensures.counted) in
    end_left c.finish-in-End.result c.args.view (programs_of c.args.filter.now) c.in_ok-stopped-in-End.stopped _ _ _ _ _ _ _ c.show.new.self _ c.in_ok-ending-in-End.ending all (omega (arith, c.loop-turn-test.true))
    c.in_ok-ending-in-End.ensures.ends c.finish-in-End.ensures.left

pub returns-in_err-stopped-in-Bytes-clause-left : goal.returns-in_err-stopped-in-Bytes-clause-left
returns-in_err-stopped-in-Bytes-clause-left g c =
    left_read c.from_residual-in_err-stopped-in-Bytes.result c.args.view _ _ _ _ _ _ _ _ _ _ _ c.loop-turn.invariant.so c.in-Bytes.ensures.3 c.run.ensures.bytes

pub returns-in_err-show-in-Bytes-clause-left : goal.returns-in_err-show-in-Bytes-clause-left
returns-in_err-show-in-Bytes-clause-left g c =
    let so = took c.args.view (RanOrStopped (programs_of c.args.filter.now) c.in_ok-stopped-in-Bytes.stopped) _ _ _ _ _ _ _ _ _ _ _ _ _ _ c.loop-turn.stamps.items c.run.new.stamps.items c.loop-turn.invariant.so c.in-Bytes.ensures.3
    (taken_bytes c.in-Bytes.count c.read.new.buffer c.in-Bytes.ensures.2 (omega arith)) c.loop-turn-test.true c.loop-turn.invariant.none c.loop-turn.invariant.no_times c.run.ensures.plain (either_run _ _ _ _ _ _ _ _ _ c.in_ok-stopped-in-Bytes.ensures.runs) c.run.ensures.form c.run.ensures.stamped in
    left_took c.from_residual-in_err-show-in-Bytes.result c.args.view _ (programs_of c.args.filter.now) _ _ _ _ _ _ _ _ _ _ _ so
    (λ input outcomes stamps has. either_shown (programs_of c.args.filter.now) c.in_ok-stopped-in-Bytes.stopped input _ outcomes stamps has)
    (rw (c.as_slice-in-Bytes.ensures.value, c.as_slice-in-Bytes-2.ensures.value) at c.in_err-show-in-Bytes.ensures.front)

pub returns-then-is_done-clause-shown : goal.returns-then-is_done-clause-shown
returns-then-is_done-clause-shown g c =
    let so = took c.args.view (RanOrStopped (programs_of c.args.filter.now) c.in_ok-stopped-in-Bytes.stopped) _ _ _ _ _ _ _ _ _ _ _ _ _ _ c.loop-turn.stamps.items c.run.new.stamps.items c.loop-turn.invariant.so c.in-Bytes.ensures.3
    (taken_bytes c.in-Bytes.count c.read.new.buffer c.in-Bytes.ensures.2 (omega arith)) c.loop-turn-test.true c.loop-turn.invariant.none c.loop-turn.invariant.no_times c.run.ensures.plain (either_run _ _ _ _ _ _ _ _ _ c.in_ok-stopped-in-Bytes.ensures.runs) c.run.ensures.form c.run.ensures.stamped in
    let all = showed c.args.view _ _ _ _ _ _ _ _ c.loop-turn.tally c.show-in-Bytes.new.self _ _ _ so (rw (c.as_slice-in-Bytes.ensures.value, c.as_slice-in-Bytes-2.ensures.value) at c.in_ok-show-in-Bytes.ensures.shown) (rw c.as_slice-in-Bytes.ensures.value at c.in_ok-show-in-Bytes.ensures.counted) in
    found_shown c.args.view (programs_of c.args.filter.now) _ _ _ _ _ _ _ _ c.in_ok-stopped-in-Bytes.stopped all (c.is_done.ensures.done c.if-is_done.true)

pub returns-then-is_done-clause-well : goal.returns-then-is_done-clause-well
returns-then-is_done-clause-well g c =
    let so = took c.args.view (RanOrStopped (programs_of c.args.filter.now) c.in_ok-stopped-in-Bytes.stopped) _ _ _ _ _ _ _ _ _ _ _ _ _ _ c.loop-turn.stamps.items c.run.new.stamps.items c.loop-turn.invariant.so c.in-Bytes.ensures.3
    (taken_bytes c.in-Bytes.count c.read.new.buffer c.in-Bytes.ensures.2 (omega arith)) c.loop-turn-test.true c.loop-turn.invariant.none c.loop-turn.invariant.no_times c.run.ensures.plain (either_run _ _ _ _ _ _ _ _ _ c.in_ok-stopped-in-Bytes.ensures.runs) c.run.ensures.form c.run.ensures.stamped in
    let all = showed c.args.view _ _ _ _ _ _ _ _ c.loop-turn.tally c.show-in-Bytes.new.self _ _ _ so (rw (c.as_slice-in-Bytes.ensures.value, c.as_slice-in-Bytes-2.ensures.value) at c.in_ok-show-in-Bytes.ensures.shown) (rw c.as_slice-in-Bytes.ensures.value at c.in_ok-show-in-Bytes.ensures.counted) in
    (c.in_ok-show-in-Bytes.ensures.good, c.in-Bytes.ensures.0.3, inr (inr (sym all.counted.0 ∙ (c.is_done.ensures.done c.if-is_done.true).0, refl)))

pub returns-in_err-ending-in-Bytes-clause-left : goal.returns-in_err-ending-in-Bytes-clause-left
returns-in_err-ending-in-Bytes-clause-left g c =
    let so = took c.args.view (SourceEnded (programs_of c.args.filter.now) true) _ _ _ _ _ _ _ _ _ _ _ _ _ _ c.loop-turn.stamps.items c.run.new.stamps.items c.loop-turn.invariant.so c.in-Bytes.ensures.3
    (taken_bytes c.in-Bytes.count c.read.new.buffer c.in-Bytes.ensures.2 (omega arith)) c.loop-turn-test.true c.loop-turn.invariant.none c.loop-turn.invariant.no_times c.run.ensures.plain (rw c.if-stopped.true at c.in_ok-stopped-in-Bytes.ensures.runs) c.run.ensures.form c.run.ensures.stamped in
    let all = showed c.args.view _ _ _ _ _ _ _ _ c.loop-turn.tally c.show-in-Bytes.new.self _ _ _ so (rw (c.as_slice-in-Bytes.ensures.value, c.as_slice-in-Bytes-2.ensures.value) at c.in_ok-show-in-Bytes.ensures.shown) (rw c.as_slice-in-Bytes.ensures.value at c.in_ok-show-in-Bytes.ensures.counted) in
    left_showed c.from_residual-in_err-ending-in-Bytes.result c.args.view _ (programs_of c.args.filter.now) _ _ _ _ _ _ _ _ all
    (λ input outcomes stamps has. ended_shown (programs_of c.args.filter.now) true input _ outcomes stamps has)

pub returns-then-stopped-clause-shown : goal.returns-then-stopped-clause-shown
returns-then-stopped-clause-shown g c =
    let so = took c.args.view (SourceEnded (programs_of c.args.filter.now) true) _ _ _ _ _ _ _ _ _ _ _ _ _ _ c.loop-turn.stamps.items c.run.new.stamps.items c.loop-turn.invariant.so c.in-Bytes.ensures.3
    (taken_bytes c.in-Bytes.count c.read.new.buffer c.in-Bytes.ensures.2 (omega arith)) c.loop-turn-test.true c.loop-turn.invariant.none c.loop-turn.invariant.no_times c.run.ensures.plain (rw c.if-stopped.true at c.in_ok-stopped-in-Bytes.ensures.runs) c.run.ensures.form c.run.ensures.stamped in
    let all = showed c.args.view _ _ _ _ _ _ _ _ c.loop-turn.tally c.show-in-Bytes.new.self _ _ _ so (rw (c.as_slice-in-Bytes.ensures.value, c.as_slice-in-Bytes-2.ensures.value) at c.in_ok-show-in-Bytes.ensures.shown) (rw c.as_slice-in-Bytes.ensures.value at c.in_ok-show-in-Bytes.ensures.counted) in
    end_shown c.finish-then-stopped.result c.args.view (programs_of c.args.filter.now) true _ _ _ _ _ _ _ c.show-in-Bytes.new.self _ c.in_ok-ending-in-Bytes.ending all (omega (arith, c.loop-turn-test.true))
    (inr refl) c.in_ok-ending-in-Bytes.ensures.ends c.in_ok-ending-in-Bytes.ensures.status c.finish-then-stopped.ensures.shown

pub returns-then-stopped-clause-well : goal.returns-then-stopped-clause-well
returns-then-stopped-clause-well g c =
    let so = took c.args.view (SourceEnded (programs_of c.args.filter.now) true) _ _ _ _ _ _ _ _ _ _ _ _ _ _ c.loop-turn.stamps.items c.run.new.stamps.items c.loop-turn.invariant.so c.in-Bytes.ensures.3
    (taken_bytes c.in-Bytes.count c.read.new.buffer c.in-Bytes.ensures.2 (omega arith)) c.loop-turn-test.true c.loop-turn.invariant.none c.loop-turn.invariant.no_times c.run.ensures.plain (rw c.if-stopped.true at c.in_ok-stopped-in-Bytes.ensures.runs) c.run.ensures.form c.run.ensures.stamped in
    let all = showed c.args.view _ _ _ _ _ _ _ _ c.loop-turn.tally c.show-in-Bytes.new.self _ _ _ so (rw (c.as_slice-in-Bytes.ensures.value, c.as_slice-in-Bytes-2.ensures.value) at c.in_ok-show-in-Bytes.ensures.shown) (rw c.as_slice-in-Bytes.ensures.value at c.in_ok-show-in-Bytes.ensures.counted) in
    end_well c.finish-then-stopped.result c.args.view (programs_of c.args.filter.now) _ _ _ _ _ _ _ c.show-in-Bytes.new.self _ c.in_ok-ending-in-Bytes.ending _ _ _ all c.in_ok-ending-in-Bytes.ensures.status c.finish-then-stopped.ensures.shown c.finish-then-stopped.ensures.good c.in-Bytes.ensures.0.3

pub returns-then-stopped-clause-left : goal.returns-then-stopped-clause-left
returns-then-stopped-clause-left g c =
    let so = took c.args.view (SourceEnded (programs_of c.args.filter.now) true) _ _ _ _ _ _ _ _ _ _ _ _ _ _ c.loop-turn.stamps.items c.run.new.stamps.items c.loop-turn.invariant.so c.in-Bytes.ensures.3
    (taken_bytes c.in-Bytes.count c.read.new.buffer c.in-Bytes.ensures.2 (omega arith)) c.loop-turn-test.true c.loop-turn.invariant.none c.loop-turn.invariant.no_times c.run.ensures.plain (rw c.if-stopped.true at c.in_ok-stopped-in-Bytes.ensures.runs) c.run.ensures.form c.run.ensures.stamped in
    let all = showed c.args.view _ _ _ _ _ _ _ _ c.loop-turn.tally c.show-in-Bytes.new.self _ _ _ so (rw (c.as_slice-in-Bytes.ensures.value, c.as_slice-in-Bytes-2.ensures.value) at c.in_ok-show-in-Bytes.ensures.shown) (rw c.as_slice-in-Bytes.ensures.value at c.in_ok-show-in-Bytes.ensures.counted) in
    end_left c.finish-then-stopped.result c.args.view (programs_of c.args.filter.now) true _ _ _ _ _ _ _ c.show-in-Bytes.new.self _ c.in_ok-ending-in-Bytes.ending all (omega (arith, c.loop-turn-test.true))
    c.in_ok-ending-in-Bytes.ensures.ends c.finish-then-stopped.ensures.left

pub returns-in-Failed-clause-left : goal.returns-in-Failed-clause-left
returns-in-Failed-clause-left g c = left_kept c.args.view _ _ _ _ _ _ _ _ _ _ c.loop-turn.invariant.so c.in-Failed.ensures.1

pub loop-turn-preserved : goal.loop-turn-preserved
loop-turn-preserved g c = elim c.match-read.branch [
  | in-Bytes+in_ok-stopped-in-Bytes+in_ok-show-in-Bytes+else-is_done+else-stopped w ↦
      let so = took c.args.view (RanOrStopped (programs_of c.args.filter.now) w.in_ok-stopped-in-Bytes.stopped) _ _ _ _ _ _ _ _ _ _ _ _ _ _ c.loop-turn.stamps.items w.run.new.stamps.items c.loop-turn.invariant.so w.in-Bytes.ensures.3
      (taken_bytes w.in-Bytes.count c.read.new.buffer w.in-Bytes.ensures.2 (omega arith)) c.loop-turn-test.true c.loop-turn.invariant.none c.loop-turn.invariant.no_times w.run.ensures.plain (either_run _ _ _ _ _ _ _ _ _ w.in_ok-stopped-in-Bytes.ensures.runs) w.run.ensures.form w.run.ensures.stamped in
      let all = showed c.args.view _ _ _ _ _ _ _ _ c.loop-turn.tally w.show-in-Bytes.new.self _ _ _ so (rw (w.as_slice-in-Bytes.ensures.value, w.as_slice-in-Bytes-2.ensures.value) at w.in_ok-show-in-Bytes.ensures.shown) (rw w.as_slice-in-Bytes.ensures.value at w.in_ok-show-in-Bytes.ensures.counted) in
      rw (w.source-is, w.writer-is, w.outcomes-is, w.stamps-is, w.tally-is) (record {
        so = streamed_next c.args.view _ _ _ _ _ _ _ _ _ (rw w.if-stopped.false at all);
        left = omega (arith, w.in-Bytes.ensures.0.0, c.loop-turn.invariant.left);
        few = omega (arith, w.in-Bytes.ensures.0.1, w.in-Bytes.ensures.2, c.loop-turn.invariant.few);
        open_end = (w.in-Bytes.ensures.0.2, w.in-Bytes.ensures.0.3);
        good = w.in_ok-show-in-Bytes.ensures.good;
        none = w.clear.ensures.items;
        no_times = w.clear-in-Bytes.ensures.items;
        empty = w.in_ok-show-in-Bytes.ensures.empty;
      })
  | in-Again w ↦ rw (w.source-is, w.writer-is, w.outcomes-is, w.stamps-is, w.tally-is) (record {
    so = streamed_kept c.args.view _ _ _ _ _ _ _ _ _ _ c.loop-turn.invariant.so w.in-Again.ensures.1;
    left = omega (arith, w.in-Again.ensures.0.0, c.loop-turn.invariant.left);
    few = omega (arith, w.in-Again.ensures.0.1, c.loop-turn.invariant.few);
    open_end = (w.in-Again.ensures.0.2, w.in-Again.ensures.0.3);
    good = c.loop-turn.invariant.good;
    none = c.loop-turn.invariant.none;
    no_times = c.loop-turn.invariant.no_times;
    empty = c.loop-turn.invariant.empty;
  })
]

pub returns-clause-left : goal.returns-clause-left
returns-clause-left g c = left_kept c.args.view _ _ _ _ _ _ _ _ _ _ c.loop-turn.invariant.so (keeps_itself _)

pub returns-in_err-stopped-in-End-clause-cause : goal.returns-in_err-stopped-in-End-clause-cause
returns-in_err-stopped-in-End-clause-cause g c = ends_refused c.from_residual.result c.read.new.self c.loop-turn.writer c.in-End.ensures.0.3 c.loop-turn.invariant.good c.from_residual.ensures.1

pub returns-in_err-show-in-End-clause-cause : goal.returns-in_err-show-in-End-clause-cause
returns-in_err-show-in-End-clause-cause g c =
    ends_written c.from_residual-in_err-show-in-End.result c.in_err-show-in-End.field-0.0 c.read.new.self c.show.new.writer c.in-End.ensures.0.3
    c.from_residual-in_err-show-in-End.ensures.1 c.in_err-show-in-End.ensures.cause

pub returns-in_err-ending-in-End-clause-cause : goal.returns-in_err-ending-in-End-clause-cause
returns-in_err-ending-in-End-clause-cause g c =
    ends_refused c.from_residual-in_err-ending-in-End.result c.read.new.self c.show.new.writer c.in-End.ensures.0.3 c.in_ok-show-in-End.ensures.good c.from_residual-in_err-ending-in-End.ensures.1

pub returns-in-End-clause-cause : goal.returns-in-End-clause-cause
returns-in-End-clause-cause g c = ends_writing c.finish-in-End.result c.read.new.self c.finish-in-End.new.writer c.in-End.ensures.0.3 c.finish-in-End.ensures.cause

pub returns-in_err-stopped-in-Bytes-clause-cause : goal.returns-in_err-stopped-in-Bytes-clause-cause
returns-in_err-stopped-in-Bytes-clause-cause g c =
    ends_refused c.from_residual-in_err-stopped-in-Bytes.result c.read.new.self c.loop-turn.writer c.in-Bytes.ensures.0.3 c.loop-turn.invariant.good c.from_residual-in_err-stopped-in-Bytes.ensures.1

pub returns-in_err-show-in-Bytes-clause-cause : goal.returns-in_err-show-in-Bytes-clause-cause
returns-in_err-show-in-Bytes-clause-cause g c =
    ends_written c.from_residual-in_err-show-in-Bytes.result c.in_err-show-in-Bytes.field-0.0 c.read.new.self c.show-in-Bytes.new.writer c.in-Bytes.ensures.0.3
    c.from_residual-in_err-show-in-Bytes.ensures.1 c.in_err-show-in-Bytes.ensures.cause

pub returns-in_err-ending-in-Bytes-clause-cause : goal.returns-in_err-ending-in-Bytes-clause-cause
returns-in_err-ending-in-Bytes-clause-cause g c =
    ends_refused c.from_residual-in_err-ending-in-Bytes.result c.read.new.self c.show-in-Bytes.new.writer c.in-Bytes.ensures.0.3 c.in_ok-show-in-Bytes.ensures.good c.from_residual-in_err-ending-in-Bytes.ensures.1

pub returns-then-stopped-clause-cause : goal.returns-then-stopped-clause-cause
returns-then-stopped-clause-cause g c = ends_writing c.finish-then-stopped.result c.read.new.self c.finish-then-stopped.new.writer c.in-Bytes.ensures.0.3 c.finish-then-stopped.ensures.cause
