use Rattle.std.proofs.Common.{◌∙◌, ◌++◌, ap}
use Rattle.console.specs.Matching.{ending_text}
use Rattle.console.specs.Views.{shown_after}
use Rattle.console.proofs.ViewLemmas.{end_front, end_told, end_unwritten}
use Rattle.console.proofs.tally.Tally.finish.Goals as goal

pub returns-in_err-push_after-clause-left : goal.returns-in_err-push_after-clause-left
returns-in_err-push_after-clause-left g c = end_unwritten c.from_residual.result c.args.self.view c.args.self.accepted c.args.self.total c.args.ending _ _

pub returns-in_err-push-clause-left : goal.returns-in_err-push-clause-left
returns-in_err-push-clause-left g c = end_unwritten c.from_residual-in_err-push.result c.args.self.view c.args.self.accepted c.args.self.total c.args.ending _ _

pub returns-in_err-write_text-clause-left : goal.returns-in_err-write_text-clause-left
returns-in_err-write_text-clause-left g c =
    end_front c.from_residual-in_err-write_text.result c.args.self.view c.args.self.accepted c.args.self.total c.args.ending _ _ _ c.in_default.not-Quiet
    (c.in_ok-push.ensures ∙ ap (λ t. t ++ ending_text c.args.ending) (c.in_ok-push_after.ensures ∙ ap (λ t. t ++ shown_after c.args.self.view c.args.self.accepted c.args.self.total) c.requires.empty))
    (rw c.as_str.ensures.value at c.in_err-write_text.ensures.front)

pub returns-clause-shown : goal.returns-clause-shown
returns-clause-shown g c = (
  _,
  c.in_ok-write_text.ensures.written,
  end_told c.args.self.view c.args.self.accepted c.args.self.total c.args.ending _ c.status.result c.stop.result c.in_default.not-Quiet
      (c.as_str.ensures.value ∙ c.in_ok-push.ensures ∙ ap (λ t. t ++ ending_text c.args.ending) (c.in_ok-push_after.ensures ∙ ap (λ t. t ++ shown_after c.args.self.view c.args.self.accepted c.args.self.total) c.requires.empty))
      c.status.ensures c.stop.ensures,
)
