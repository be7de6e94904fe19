use Rattle.std.proofs.Common.{◌≡◌, true, false, List, [], ◌∷◌, ◌++◌, sym, ap, ◌∙◌, subst}
use Rattle.std.specs.Prelude.{◌||◌}
use Rattle.expr_tree.specs.declared.test.Test.{Test}
use Rattle.expr_meaning.specs.Lists.{is_one_more}
use Rattle.expr_lower.specs.Walks.{Flushes}
use Rattle.expr_lower.proofs.Walking.{joins_more, joins_other}
use Rattle.expr_lower.proofs.walk.lower_or_test.Goals as goal

pub returns-then-is_one_more : goal.returns-then-is_one_more
returns-then-is_one_more c =
    let one : is_one_more c.args.tests.now.items c.args.test ≡ true = ap (λ (l : List Test). is_one_more l c.args.test) (sym c.deref.ensures.value) ∙ sym c.is_one_more.ensures ∙ c.if-is_one_more.true in
    joins_more c.args.test c.args.before c.kept-middle.result c.args.behind (record { place = c.kept-place.result; tag = c.either-tag.result }) c.args.tests.now.items c.push.new.self.items c.args.draft.now.parts.items
    one c.in_ok-push.ensures.items c.kept-middle.ensures c.in_ok-check_test.ensures.can c.kept-place.ensures (c.either-tag.ensures ∙ ap (λ t. c.args.behind.tag || t) c.is_tag.ensures)

pub returns : goal.returns
returns c =
    let one : is_one_more c.args.tests.now.items c.args.test ≡ false = ap (λ (l : List Test). is_one_more l c.args.test) (sym c.deref.ensures.value) ∙ sym c.is_one_more.ensures ∙ c.if-is_one_more.false in
    let only : c.push-2.new.self.items ≡ c.args.test ∷ [] = c.in_ok-push-2.ensures.items ∙ ap (λ (l : List Test). l ++ c.args.test ∷ []) c.clear.ensures.items in
    let asked : Flushes c.args.before c.args.tests.now.items c.args.draft.now.parts.items c.flush.new.draft.parts.items =
    subst (λ l. Flushes c.args.before l c.args.draft.now.parts.items c.flush.new.draft.parts.items) c.deref-2.ensures.value c.in_ok-flush.ensures in
    joins_other c.args.test c.args.before c.kept-middle.result c.args.behind (record { place = c.kept-place.result; tag = c.either-tag.result }) c.args.tests.now.items c.push-2.new.self.items c.args.draft.now.parts.items c.flush.new.draft.parts.items
    one only asked c.kept-middle.ensures c.in_ok-check_test.ensures.can c.kept-place.ensures (c.either-tag.ensures ∙ ap (λ t. c.args.behind.tag || t) c.is_tag.ensures)
