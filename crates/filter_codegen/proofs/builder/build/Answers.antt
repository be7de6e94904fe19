use Rattle.std.proofs.Common.{◌≡◌, ◌+◌, ◌-◌, ◌≤◌, length, drop, arith, ◌∙◌, sym, subst}
use Rattle.std.proofs.lemmas.Option.{slice_get-get_or}
use Rattle.std.proofs.lemmas.Result.{err_from_is_err_and}
use Rattle.filter_cond.specs.Means.{tests}
use Rattle.filter_codegen.proofs.Building.{built_entry, built_none, refuses_parts, no_tasks, some_tasks}
use Rattle.filter_codegen.proofs.builder.build.Goals as goal

pub returns-in_err-build_next-clause-err : goal.returns-in_err-build_next-clause-err
returns-in_err-build_next-clause-err c =
    let count = c.parts.count in
    let below = c.parts.invariant.inside in
    let e : count ≡ count - 1 + 1 = omega arith in
    let few = subst (λ n. length c.parts.graph ≤ tests (drop n c.args.parts.now)) e c.parts.invariant.few in
    let p = err_from_is_err_and c.from_residual-in_err-build_next.result c.from_residual-in_err-build_next.ensures.1 in
    rw (p.1, p.2) (refuses_parts c.args.parts.now (count - 1) (length c.parts.graph) _ c.in_err-build_next.field-0.0 (slice_get-get_or c.args.parts.now (count - 1) _ (omega arith)) few c.in_err-build_next.ensures.err)

pub returns-then-is_empty-clause-ok : goal.returns-then-is_empty-clause-ok
returns-then-is_empty-clause-ok c =
    built_entry c.args.parts.now c.parts.count c.parts.graph c.parts.tasks.items c.parts.entries.items c.pop_entry.new.entries.items c.pop_entry.result (omega arith)
    (no_tasks c.parts.tasks.items _ (sym c.is_empty.ensures ∙ c.if-is_empty.true) c.parts.tasks.ok.0) c.pop_entry.ensures c.parts.invariant

pub returns-clause-ok : goal.returns-clause-ok
returns-clause-ok c =
    built_none c.args.parts.now c.parts.count c.parts.graph c.parts.tasks.items c.parts.entries.items (omega arith)
    (some_tasks c.parts.tasks.items _ (sym c.is_empty.ensures ∙ c.if-is_empty.false) c.parts.tasks.ok.0) c.parts.invariant
