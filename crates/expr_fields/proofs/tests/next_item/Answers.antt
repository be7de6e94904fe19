use Rattle.std.proofs.Common.{◌≡◌, ◌++◌, subst}
use Rattle.std.proofs.lemmas.Result.{on_ok_weaker}
use Rattle.expr_meaning.specs.Holds.{any_item, is_item}
use Rattle.expr_fields.specs.Parts.{parts_of}
use Rattle.expr_fields.proofs.Appending.{two}
use Rattle.expr_fields.proofs.tests.next_item.Goals as goal

pub returns : goal.returns
returns c =
    on_ok_weaker c.push.result
    (λ pushed. two _ _ _ _ _ _ _
    (subst (λ l. c.any_item.new.draft.parts.items ≡ c.args.draft.now.parts.items ++ parts_of (any_item (is_item l) c.args.tests.now)) c.next_at.ensures c.in_ok-any_item.ensures)
    c.in_ok-fragment6.ensures pushed)
    c.push.ensures
