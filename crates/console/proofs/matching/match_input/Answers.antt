use Rattle.std.proofs.Common.{refl, inl, inr, ◌∙◌}
use Rattle.console.specs.Programs.{programs_of}
use Rattle.engine_io.proofs.InputLemmas.{known_whole}
use Rattle.console.proofs.MatchingLemmas.{capture_given, lines_given, long_given, packets_of_link}
use Rattle.console.proofs.matching.match_input.Goals as goal

pub returns-in-TooLong-clause-shown : goal.returns-in-TooLong-clause-shown
returns-in-TooLong-clause-shown g c =
    long_given c.refuse_long.result (programs_of c.args.filter.now) c.args.form c.args.code.now g.R.Read.remaining g.W.Write.contents _ _ _ _ _ _ (rw c.in-TooLong.is at c.in_ok-read_bounded-in-Digits.ensures.input) refl c.refuse_long.ensures.shown

pub returns-in-Whole-clause-shown : goal.returns-in-Whole-clause-shown
returns-in-Whole-clause-shown g c =
    lines_given c.match_lines.result (programs_of c.args.filter.now) c.args.form c.in-Digits.link c.args.code.now g.R.Read.remaining g.W.Write.contents _ _ _ _ _ _ c.in-Whole.input.items c.in-Digits.is (rw c.in-Whole.is at c.in_ok-read_bounded-in-Digits.ensures.input)
    (rw c.as_slice.ensures.value at c.match_lines.ensures.shown)

pub returns-then-not-branch-clause-shown : goal.returns-then-not-branch-clause-shown
returns-then-not-branch-clause-shown g c =
    long_given c.refuse_long-then-not-branch.result (programs_of c.args.filter.now) c.args.form c.args.code.now g.R.Read.remaining g.W.Write.contents _ _ _ _ _ _ (rw c.if-not-branch.true at c.in_ok-run_input.ensures.run) refl c.refuse_long-then-not-branch.ensures.shown

pub returns-clause-shown : goal.returns-clause-shown
returns-clause-shown g c =
    let gave = rw c.if-not-branch.false at c.in_ok-run_input.ensures.run in
    capture_given c.show_capture.result (programs_of c.args.filter.now) c.args.form c.in-Capture.link c.args.code.now g.R.Read.remaining g.W.Write.contents _ _ _ _ _ _ gave.0 _ _ _ c.in-Capture.is (c.run_input.ensures.link ∙ c.new-run.ensures.link) gave.1 gave.2 gave.3 gave.4
    (rw c.as_slice-2.ensures.value at c.show_capture.ensures.shown)

pub returns-clause-part : goal.returns-clause-part
returns-clause-part g c = λ memory.
    let gave = rw c.if-not-branch.false at c.in_ok-run_input.ensures.run in
    let part = rw c.as_slice-2.ensures.value at (c.show_capture.ensures.part memory) in
    let link = c.run_input.ensures.link ∙ c.new-run.ensures.link in
    rw c.in-Capture.is (
      part.0,
      elim part.2 [
        | inl nothing ↦ inl nothing
        | inr shows ↦ inr (gave.0, gave.1, known_whole _ _ gave.0 gave.1.lost gave.2, gave.3, packets_of_link _ _ _ _ _ link (shows (programs_of c.args.filter.now) gave.0 _ gave.4))
      ],
      part.1,
    )
