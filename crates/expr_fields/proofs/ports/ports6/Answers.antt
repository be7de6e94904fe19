use Rattle.std.proofs.Common.{◌≡◌, ◌++◌, subst}
use Rattle.std.proofs.lemmas.Result.{on_ok_weaker}
use Rattle.expr_meaning.specs.Holds.{ends, port6}
use Rattle.expr_fields.specs.Parts.{parts_of}
use Rattle.expr_fields.proofs.Appending.{two}
use Rattle.expr_fields.proofs.ports.ports6.Goals as goal

pub returns : goal.returns
returns c =
    on_ok_weaker c.push.result
    (λ pushed. two _ _ _ _ _ _ _ c.in_ok-begins6.ensures
    (subst (λ l. c.ends.new.draft.parts.items ≡ c.begins6.new.draft.parts.items ++ parts_of (ends (port6 c.args.place 0) l c.args.side c.args.tests.now)) c.port6-destination.ensures
    (subst (λ l. c.ends.new.draft.parts.items ≡ c.begins6.new.draft.parts.items ++ parts_of (ends l c.port6-destination.result c.args.side c.args.tests.now)) c.port6-source.ensures c.in_ok-ends.ensures))
    pushed)
    c.push.ensures
