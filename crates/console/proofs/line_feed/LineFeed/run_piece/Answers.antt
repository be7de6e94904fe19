use Rattle.std.proofs.Common.{ℕ, arith, length-drop, refl, ◌∙◌}
use Rattle.std.proofs.lemmas.List.{length-take}
use Rattle.console.specs.Streaming.{LinesRan, LinesStopped}
use Rattle.console.proofs.RunningLemmas.{runs_none, runs_then}
use Rattle.console.proofs.LineFeedLemmas.{lines_next, lines_bad, lines_kept}
use Rattle.console.specs.Programs.{programs_of}
use Rattle.console.proofs.line_feed.LineFeed.run_piece.Goals as goal

pub loop-end-init : goal.loop-end-init
loop-end-init c = record { runs = runs_none (LinesRan (programs_of c.args.filter.now)) _ _ _; within = omega arith; link = refl }

pub returns-then-not-branch-clause-runs : goal.returns-then-not-branch-clause-runs
returns-then-not-branch-clause-runs c =
    let wrong = rw c.if-not-branch.true at c.in_ok-run_line.ensures.ran in
    let counted = rw c.if-not-branch.true at c.in_ok-run_line.ensures.count in
    runs_then (LinesRan (programs_of c.args.filter.now)) (LinesRan (programs_of c.args.filter.now)) (LinesStopped (programs_of c.args.filter.now)) _ c.loop-end.rest.now _ _ c.loop-end.self _ _ c.loop-end.outcomes.items _ c.loop-end.invariant.runs
    (lines_bad _ c.loop-end.rest.now c.in-Some.end _ _ _ _ c.in-Some.ensures.0 c.in-Some.ensures.1 c.run_line.ensures.link wrong.0 wrong.1 counted)

pub loop-end-preserved : goal.loop-end-preserved
loop-end-preserved c =
    let ran = rw c.if-not-branch.false at c.in_ok-run_line.ensures.ran in
    let counted = rw c.if-not-branch.false at c.in_ok-run_line.ensures.count in
    record {
      runs = runs_then (LinesRan (programs_of c.args.filter.now)) (LinesRan (programs_of c.args.filter.now)) (LinesRan (programs_of c.args.filter.now)) _ c.loop-end.rest.now _ _ c.loop-end.self _ _ c.loop-end.outcomes.items _ c.loop-end.invariant.runs
          (lines_next _ c.loop-end.rest.now c.in-Some.end _ _ _ _ ran.0 c.in-Some.ensures.0 c.in-Some.ensures.1 c.run_line.ensures.link ran.1 ran.2 counted.0 counted.1);
      within = omega (arith, length-take {A = ℕ}, length-drop {A = ℕ}, c.loop-end.invariant.within);
      link = c.run_line.ensures.link ∙ c.loop-end.invariant.link;
    }

pub returns-clause-runs : goal.returns-clause-runs
returns-clause-runs c = runs_then (LinesRan (programs_of c.args.filter.now)) (LinesRan (programs_of c.args.filter.now)) (LinesRan (programs_of c.args.filter.now)) _ c.loop-end.rest.now _ _ c.loop-end.self _ _ c.loop-end.outcomes.items _ c.loop-end.invariant.runs
    (lines_kept _ c.loop-end.rest.now _ _ _ (rw c.in_default.is at c.newline_at.ensures) c.in_ok-keep.ensures.kept c.keep.ensures.number c.keep.ensures.link)
