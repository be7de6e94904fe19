use Rattle.std.proofs.Common.{refl}
use Rattle.commands.proofs.Alone.{and_same, never_reads, print_causes, shows_lines, shows_text}
use Rattle.commands.proofs.performing.perform_alone.Goals as goal

pub returns-in-Match-clause-shown : goal.returns-in-Match-clause-shown
returns-in-Match-clause-shown g c = shows_lines c.perform_match.result _ _ _ _ _ _ (rw c.in-Match.is (rw c.form.ensures at c.perform_match.ensures.shown))

pub returns-in-View-clause-shown : goal.returns-in-View-clause-shown
returns-in-View-clause-shown g c = shows_lines c.run_view.result _ _ _ _ _ _ (rw c.in-View.is (rw (c.as_bytes.ensures.value, c.form-in-View.ensures, c.shown.ensures) at c.run_view.ensures.shown))

pub returns-in-Keep-clause-shown : goal.returns-in-Keep-clause-shown
returns-in-Keep-clause-shown g c = rw c.in-Keep.is (rw c.as_bytes-in-Keep.ensures.value at c.run_keep.ensures.kept)

pub returns-in-Explain-clause-shown : goal.returns-in-Explain-clause-shown
returns-in-Explain-clause-shown g c = shows_lines c.run_explain.result _ _ _ _ _ _ (rw c.in-Explain.is (rw (c.as_bytes-in-Explain.ensures.value, c.form-in-Explain.ensures) at c.run_explain.ensures.shown))

pub returns-in-Check-clause-shown : goal.returns-in-Check-clause-shown
returns-in-Check-clause-shown g c = shows_text c.run_check.result c.args.request.now c.args.choices _ _ _ _ _ _ _ (rw c.in-Check.is (rw c.read_as.ensures at c.run_check.ensures.shown))

pub returns-in-Graph-clause-shown : goal.returns-in-Graph-clause-shown
returns-in-Graph-clause-shown g c = shows_text c.run_graph.result c.args.request.now c.args.choices _ _ _ _ _ _ _ (rw c.in-Graph.is (rw c.read_as-in-Graph.ensures at c.run_graph.ensures.shown))

pub returns-in-Dump-clause-shown : goal.returns-in-Dump-clause-shown
returns-in-Dump-clause-shown g c = shows_text c.perform_dump.result c.args.request.now c.args.choices _ _ _ _ _ _ _ (rw c.in-Dump.is c.perform_dump.ensures.shown)

pub returns-in-Draw-clause-shown : goal.returns-in-Draw-clause-shown
returns-in-Draw-clause-shown g c = shows_text c.run_draw.result c.args.request.now c.args.choices _ _ _ _ _ _ _ (rw c.in-Draw.is c.run_draw.ensures.shown)

pub returns-in-Compile-clause-shown : goal.returns-in-Compile-clause-shown
returns-in-Compile-clause-shown g c = shows_text c.perform_compile.result c.args.request.now c.args.choices _ _ _ _ _ _ _
    (rw c.in-Compile.is (and_same c.perform_compile.result _ _ _ _ _ refl (rw c.as_slice.ensures.value at c.perform_compile.ensures.shown)))

pub returns-in-Compile-clause-cause : goal.returns-in-Compile-clause-cause
returns-in-Compile-clause-cause g c = print_causes c.perform_compile.result c.args.reader.now c.perform_compile.new.writer c.requires.fresh.2.1 c.perform_compile.ensures.cause

pub returns-in-Compile-clause-silent : goal.returns-in-Compile-clause-silent
returns-in-Compile-clause-silent g c = λ of. never_reads c.perform_compile.result c.perform_compile.new.writer c.perform_compile.ensures.cause of
