use Rattle.std.proofs.Common.{◌≡◌, ◌++◌, List, take}
use Rattle.std.specs.Prelude.{fold, map}
use Rattle.filter_cond.specs.declared.cond.Part.{Part}
use Rattle.expr_meaning.specs.Questions.{Question, Or}
use Rattle.expr_meaning.specs.Lists.{item_of}
use Rattle.expr_fields.specs.Parts.{parts_of}
use Rattle.expr_fields.specs.Targets.{asked}
use Rattle.expr_fields.proofs.items.more_items.Given as goal

abbrev pub invariant-loop-test : goal.invariant-loop-test
invariant-loop-test l =
    (q : Question) (old : List Part) → l.fn.draft.parts.items ≡ old ++ parts_of q → l.draft.parts.items ≡ old ++ parts_of (fold Or q (map (λ t. asked l.target (item_of t)) (take l.test-index l.tests)))
