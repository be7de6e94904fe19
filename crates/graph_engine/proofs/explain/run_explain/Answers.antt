use Rattle.std.proofs.Common.{inl, refl}
use Rattle.console.specs.Programs.{programs_of}
use Rattle.graph_engine.proofs.ExplainLemmas.{shown_of}
use Rattle.graph_engine.proofs.explain.run_explain.Goals as goal

pub returns-in_ok-write_text-in-Err-clause-shown : goal.returns-in_ok-write_text-in-Err-clause-shown
returns-in_ok-write_text-in-Err-clause-shown g c = (
  _,
  _,
  rw c.as_str-in-Err.ensures.value at c.in_ok-write_text-in-Err.ensures.written,
  rw c.as_str.ensures.value at c.in_ok-push_str-in-Err.ensures.bytes,
  inl (rw c.in-Err.is at c.in_ok-filter.ensures, refl),
)

pub returns-in-Ok-clause-shown : goal.returns-in-Ok-clause-shown
returns-in-Ok-clause-shown g c =
    shown_of _ _ c.args.accept (programs_of c.in-Ok.filter) c.args.form g.R.Read.remaining g.W.Write.contents c.args.reader.now c.explain_input.new.reader c.args.writer.now c.explain_input.new.writer _ _ (rw c.in-Ok.is at c.in_ok-filter.ensures) c.explain_input.ensures.shown

pub returns-in-Ok-clause-unread : goal.returns-in-Ok-clause-unread
returns-in-Ok-clause-unread g c = λ none. absurd (none (programs_of c.in-Ok.filter) (rw c.in-Ok.is at c.in_ok-filter.ensures))
