use Rattle.std.proofs.Common.{refl}
use Rattle.console.specs.Programs.{programs_of}
use Rattle.console.proofs.StreamLemmas.{bad_code_shown, left_of_code, left_unsaid, nothing_left, shown_of_code}
use Rattle.console.proofs.streaming.run_view.Goals as goal

pub returns-clause-shown : goal.returns-clause-shown
returns-clause-shown g c = shown_of_code c.args.view c.args.code.now c.args.accept (programs_of c.in-Ok.filter) c.args.form _ g.R.Read.remaining g.W.Write.contents _ _ _ _ (rw c.in-Ok.is at c.in_ok-filter.ensures) c.new-source.ensures.form c.stream-finished.result c.in_ok-finished.finished _ _ c.in_ok-finished.was c.stream-finished.ensures.shown c.in_ok-push_stop.ensures

pub returns-in_err-finished-clause-left : goal.returns-in_err-finished-clause-left
returns-in_err-finished-clause-left g c = left_of_code c.args.view c.args.code.now c.args.accept (programs_of c.in-Ok.filter) c.args.form _ g.R.Read.remaining g.W.Write.contents _ _ _ _ (rw c.in-Ok.is at c.in_ok-filter.ensures) c.new-source.ensures.form _ c.stream-finished.result c.stream-finished.ensures.left (rw c.in_err-finished.was refl)

pub returns-in_err-push_stop-clause-left : goal.returns-in_err-push_stop-clause-left
returns-in_err-push_stop-clause-left g c = left_unsaid c.args.view c.args.code.now c.args.accept (programs_of c.in-Ok.filter) c.args.form _ g.R.Read.remaining g.W.Write.contents _ _ _ _ (rw c.in-Ok.is at c.in_ok-filter.ensures) c.new-source.ensures.form _ c.stream-finished.result c.in_ok-finished.finished c.in_ok-finished.was c.stream-finished.ensures.shown

pub returns-in_err-finished-clause-unread : goal.returns-in_err-finished-clause-unread
returns-in_err-finished-clause-unread g c = λ none. absurd (none (programs_of c.in-Ok.filter) (rw c.in-Ok.is at c.in_ok-filter.ensures))

pub returns-in_err-push_stop-clause-unread : goal.returns-in_err-push_stop-clause-unread
returns-in_err-push_stop-clause-unread g c = λ none. absurd (none (programs_of c.in-Ok.filter) (rw c.in-Ok.is at c.in_ok-filter.ensures))

pub returns-clause-unread : goal.returns-clause-unread
returns-clause-unread g c = λ none. absurd (none (programs_of c.in-Ok.filter) (rw c.in-Ok.is at c.in_ok-filter.ensures))

pub returns-in_err-push_str-in-Err-clause-left : goal.returns-in_err-push_str-in-Err-clause-left
returns-in_err-push_str-in-Err-clause-left g c = nothing_left _ c.args.view c.args.code.now c.args.accept c.args.form g.R.Read.remaining g.W.Write.contents _ _ _

pub returns-in-Err-clause-shown : goal.returns-in-Err-clause-shown
returns-in-Err-clause-shown g c =
    bad_code_shown c.refuse_code.result c.args.view c.args.code.now c.args.accept _ _ c.args.form g.R.Read.remaining g.W.Write.contents _ _ _ _ _ _ (rw c.in-Err.is at c.in_ok-filter.ensures) (rw c.as_str.ensures.value at c.in_ok-push_str-in-Err.ensures.bytes)
    (rw c.as_str-in-Err.ensures.value at c.refuse_code.ensures.written)
