use Rattle.console.proofs.StreamLemmas.{left_of_view, lines_of_view}
use Rattle.console.proofs.streaming.run_stream.Goals as goal

pub returns-clause-shown : goal.returns-clause-shown
returns-clause-shown g c =
    lines_of_view c.run_view.result c.args.code.now c.args.accept c.args.form g.R.Read.remaining g.W.Write.contents c.args.reader.now c.run_view.new.reader c.args.writer.now c.run_view.new.writer
    _ _ c.run_view.ensures.shown

pub returns-clause-left : goal.returns-clause-left
returns-clause-left g c =
    left_of_view c.run_view.result c.args.code.now c.args.accept c.args.form g.R.Read.remaining g.W.Write.contents c.args.reader.now c.run_view.new.reader c.args.writer.now c.run_view.new.writer
    c.run_view.ensures.left
