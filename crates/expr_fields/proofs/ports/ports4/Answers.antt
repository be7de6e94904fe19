use Rattle.std.proofs.Common.{◌≡◌, ◌++◌, subst}
use Rattle.std.proofs.lemmas.Result.{on_ok_weaker}
use Rattle.expr_meaning.specs.Holds.{ends, port4}
use Rattle.expr_fields.specs.Parts.{parts_of}
use Rattle.expr_fields.proofs.Appending.{two}
use Rattle.expr_fields.proofs.ports.ports4.Goals as goal

pub returns : goal.returns
returns c =
    on_ok_weaker c.push.result
    (λ pushed. two _ _ _ _ _ _ _ c.in_ok-begins4.ensures
    (subst (λ l. c.ends.new.draft.parts.items ≡ c.begins4.new.draft.parts.items ++ parts_of (ends (port4 c.args.place 0) l c.args.side c.args.tests.now)) c.port4-destination.ensures
    (subst (λ l. c.ends.new.draft.parts.items ≡ c.begins4.new.draft.parts.items ++ parts_of (ends l c.port4-destination.result c.args.side c.args.tests.now)) c.port4-source.ensures c.in_ok-ends.ensures))
    pushed)
    c.push.ensures
