use Rattle.std.proofs.Common.{◌≡◌, ◌<◌, ◌-◌, length, get_or, refl, sym, subst, arith}
use Rattle.std.specs.Prelude.{IfOk}
use Rattle.std.proofs.lemmas.Option.{slice_get-get_or, slice_get_read}
use Rattle.expr_tree.specs.declared.tree.Kind.TheVariants.{Every}
use Rattle.expr_tree.specs.Expr.{Is, Or, expr_at}
use Rattle.expr_lower.specs.Spines.{joined_by}
use Rattle.expr_lower.specs.Walks.{Flushes, IsRising, Joins}
use Rattle.expr_lower.proofs.Walking.{rising, risen, joins_not, joins_and, joins_or}
use Rattle.expr_lower.proofs.walk.+walk.Goals as goal

pub lower_at-up-preserved : goal.lower_at-up-preserved
lower_at-up-preserved t c =
    let joins = c.in_ok-joins.field-0.joins.items in
    let join = c.index-join.result.now in
    let at = c.index-join.ensures in
    let few = c.up.invariant.within in
    let last : c.up.count - 1 < length joins = omega arith in
    let below : get_or joins (c.up.count - 1) join < length c.args.nodes.now = c.in_ok-joins.ensures.within (c.up.count - 1) join last in
    let inside : join < length c.args.nodes.now = omega arith in
    rising c.args.nodes.now _ c.args.place joins c.up.count (c.up.count - 1) join (get_or c.args.nodes.now join (record { kind = Every; column = 0 })) c.args.before c.up.behind _ c.up.tests.items _ _ c.up.draft.parts.items _ (omega arith)
    (slice_get_read joins _ (c.up.count - 1) join refl last at) (slice_get-get_or c.args.nodes.now join _ inside) refl c.in_ok-behind-2.ensures c.up.invariant

pub lower_at-returns : goal.lower_at-returns
lower_at-returns t c =
    let none : c.up.count ≡ 0 = omega arith in
    let asked : Flushes c.args.before c.up.tests.items c.up.draft.parts.items c.flush.new.draft.parts.items =
    subst (λ l. Flushes c.args.before l c.up.draft.parts.items c.flush.new.draft.parts.items) c.deref.ensures.value c.in_ok-flush.ensures in
    risen c.args.nodes.now c.args.place c.in_ok-joins.field-0.joins.items c.args.before c.up.behind c.up.tests.items c.args.draft.now.parts.items c.up.draft.parts.items c.flush.new.draft.parts.items
    (subst (λ n. IsRising c.args.nodes.now c.args.place c.in_ok-joins.field-0.joins.items n c.args.before c.up.behind c.up.tests.items c.args.draft.now.parts.items c.up.draft.parts.items) none c.up.invariant) asked

pub lower_join-returns-in_ok-push-in-Not : goal.lower_join-returns-in_ok-push-in-Not
lower_join-returns-in_ok-push-in-Not t c =
    let asked : Flushes c.args.before c.args.tests.now.items c.args.draft.now.parts.items c.flush.new.draft.parts.items =
    subst (λ l. Flushes c.args.before l c.args.draft.now.parts.items c.flush.new.draft.parts.items) c.deref.ensures.value c.in_ok-flush-in-Not.ensures in
    joins_not (expr_at c.args.below.now) c.args.node.kind c.in-Not.field-0 c.args.before c.args.behind (record { place = c.kept-place.result; tag = c.args.behind.tag }) c.args.tests.now.items c.clear.new.self.items c.args.draft.now.parts.items c.flush.new.draft.parts.items c.push.new.self.parts.items
    c.in-Not.is c.clear.ensures.items asked c.kept-place.ensures refl c.in_ok-push-in-Not.ensures

pub lower_join-returns-in_ok-push-in-And : goal.lower_join-returns-in_ok-push-in-And
lower_join-returns-in_ok-push-in-And t c =
    let asked : Flushes c.args.before c.args.tests.now.items c.args.draft.now.parts.items c.flush-in-And.new.draft.parts.items =
    subst (λ l. Flushes c.args.before l c.args.draft.now.parts.items c.flush-in-And.new.draft.parts.items) c.deref-in-And.ensures.value c.in_ok-flush-in-And.ensures in
    joins_and (expr_at c.args.below.now) c.args.node.kind c.in-And.field-0 c.in-And.second c.args.before c.args.behind c.in_ok-last-in-And.last (record { place = c.in_ok-last-in-And.last.place; tag = c.either-tag.result }) c.args.tests.now.items c.clear-in-And.new.self.items c.args.draft.now.parts.items c.flush-in-And.new.draft.parts.items c.lower_at.new.draft.parts.items c.push-in-And.new.self.parts.items
    c.in-And.is c.clear-in-And.ensures.items asked c.in_ok-last-in-And.ensures refl c.either-tag.ensures c.in_ok-push-in-And.ensures

pub lower_join-returns-in_ok-push-in-None : goal.lower_join-returns-in_ok-push-in-None
lower_join-returns-in_ok-push-in-None t c =
    let asked : Flushes c.args.before c.args.tests.now.items c.args.draft.now.parts.items c.flush-in-None.new.draft.parts.items =
    subst (λ l. Flushes c.args.before l c.args.draft.now.parts.items c.flush-in-None.new.draft.parts.items) c.deref-in-None.ensures.value c.in_ok-flush-in-None.ensures in
    joins_or (expr_at c.args.below.now) c.args.node.kind c.in-Or.field-0 c.in-Or.second c.args.before c.kept-middle.result c.args.behind c.in_ok-last-in-None.last (record { place = c.kept-place-in-None.result; tag = c.either-tag-in-None.result }) c.args.tests.now.items c.clear-in-None.new.self.items c.args.draft.now.parts.items c.flush-in-None.new.draft.parts.items c.lower_at-in-None.new.draft.parts.items c.push-in-None.new.self.parts.items
    c.in-Or.is c.clear-in-None.ensures.items (rw c.in-None.is at c.test_at.ensures) asked c.kept-middle.ensures c.in_ok-last-in-None.ensures c.kept-place-in-None.ensures c.either-tag-in-None.ensures c.in_ok-push-in-None.ensures

pub lower_join-returns-in-Some : goal.lower_join-returns-in-Some
lower_join-returns-in-Some t c =
    let is : expr_at c.args.below.now c.in-Or.second ≡ Is c.in-Some.test = rw c.in-Some.is at c.test_at.ensures in
    subst (λ k. IfOk c.lower_or_test.result (λ end. Joins (joined_by (expr_at c.args.below.now) k) c.args.before c.args.behind end c.args.tests.now.items c.lower_or_test.new.tests.items c.args.draft.now.parts.items c.lower_or_test.new.draft.parts.items)) (sym c.in-Or.is)
    (subst (λ s. IfOk c.lower_or_test.result (λ end. Joins (λ x. Or x s) c.args.before c.args.behind end c.args.tests.now.items c.lower_or_test.new.tests.items c.args.draft.now.parts.items c.lower_or_test.new.draft.parts.items)) (sym is) c.lower_or_test.ensures)
