use Rattle.std.proofs.Common.{refl}
use Rattle.console.specs.Programs.{programs_of}
use Rattle.graph_engine.proofs.ExplainLemmas.{bytes_given, long_given}
use Rattle.graph_engine.proofs.explain.explain_input.Goals as goal

pub returns-in-TooLong-clause-shown : goal.returns-in-TooLong-clause-shown
returns-in-TooLong-clause-shown g c =
    long_given c.refuse_long.result (programs_of c.args.filter.now) c.args.form c.args.code.now g.R.Read.remaining g.W.Write.contents _ _ _ _ _ _ (rw c.in-TooLong.is at c.in_ok-read_bounded-in-Digits.ensures.input) refl c.refuse_long.ensures.shown

pub returns-in_ok-text-in-Whole-clause-shown : goal.returns-in_ok-text-in-Whole-clause-shown
returns-in_ok-text-in-Whole-clause-shown g c =
    let gave = rw c.in-Whole.is at c.in_ok-read_bounded-in-Digits.ensures.input in
    bytes_given c.write_last.result (programs_of c.args.filter.now) c.args.form c.args.code.now g.R.Read.remaining g.W.Write.contents _ _ _ _ _ _ c.in-Whole.input.items _ _ gave.0 gave.1 gave.2
    (rw c.in-Digits.is (rw c.as_slice.ensures.value at c.in_ok-text-in-Whole.ensures)) c.write_last.ensures.shown c.write_last.ensures.explained

pub returns-in-None-clause-shown : goal.returns-in-None-clause-shown
returns-in-None-clause-shown g c =
    long_given c.refuse_long-in-None.result (programs_of c.args.filter.now) c.args.form c.args.code.now g.R.Read.remaining g.W.Write.contents _ _ _ _ _ _ (rw c.in-None.is at c.in_ok-read_entries-in-Capture.ensures.read) refl c.refuse_long-in-None.ensures.shown

pub returns-in_ok-text-in-Some-clause-shown : goal.returns-in_ok-text-in-Some-clause-shown
returns-in_ok-text-in-Some-clause-shown g c =
    let gave = rw c.in-Some.is at c.in_ok-read_entries-in-Capture.ensures.read in
    bytes_given c.write_last-in-Some.result (programs_of c.args.filter.now) c.args.form c.args.code.now g.R.Read.remaining g.W.Write.contents _ _ _ _ _ _ gave.0 _ _ gave.1 gave.2 gave.3
    (rw c.in-Capture.is (_, _, gave.4, c.in_ok-text-in-Some.ensures)) c.write_last-in-Some.ensures.shown c.write_last-in-Some.ensures.explained
