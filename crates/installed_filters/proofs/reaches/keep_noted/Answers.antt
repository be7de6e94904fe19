use Rattle.std.proofs.Common.{get_or, ◌%◌, ◌/◌, refl, subst, arith}
use Rattle.installed_filters.specs.Counts.{numbers}
use Rattle.installed_filters.proofs.Walks.{Noting, noting_past, noting_raised, noting_all, noting_key, noting_last}
use Rattle.installed_filters.proofs.reaches.keep_noted.Goals as goal

pub bounds-verdicts-entry : goal.bounds-verdicts-entry
unfolding numbers
bounds-verdicts-entry c =
    let p = subst (λ it. Noting c.args.order.now.entries it c.args.verdicts.now c.args.captured c.loop-entry.count c.loop-entry.kept) c.in-Some.ensures.steps c.loop-entry.invariant in
    (c.requires.keys c.in-Some.entry.now.0 (noting_key c.args.order.now.entries c.in-Some.entry.now c.next.new.self c.args.verdicts.now c.args.captured c.loop-entry.count c.loop-entry.kept p)).0

pub overflow_cast-entry : goal.overflow_cast-entry
unfolding numbers
overflow_cast-entry c =
    let p = subst (λ it. Noting c.args.order.now.entries it c.args.verdicts.now c.args.captured c.loop-entry.count c.loop-entry.kept) c.in-Some.ensures.steps c.loop-entry.invariant in
    let lt = (c.requires.keys c.in-Some.entry.now.0 (noting_key c.args.order.now.entries c.in-Some.entry.now c.next.new.self c.args.verdicts.now c.args.captured c.loop-entry.count c.loop-entry.kept p)).1 in omega (arith, lt)

pub raise-count-requires-clause-last : goal.raise-count-requires-clause-last
unfolding numbers
raise-count-requires-clause-last c =
    let p = subst (λ it. Noting c.args.order.now.entries it c.args.verdicts.now c.args.captured c.loop-entry.count c.loop-entry.kept) c.in-Some.ensures.steps c.loop-entry.invariant in
    noting_last c.args.order.now.entries c.in-Some.entry.now c.next.new.self c.args.verdicts.now c.args.captured c.loop-entry.count c.loop-entry.kept c.iter-entry-items.ensures.order p

pub loop-entry-preserved-then-verdict-gt0 : goal.loop-entry-preserved-then-verdict-gt0
unfolding numbers
loop-entry-preserved-then-verdict-gt0 c =
    let p = subst (λ it. Noting c.args.order.now.entries it c.args.verdicts.now c.args.captured c.loop-entry.count c.loop-entry.kept) c.in-Some.ensures.steps c.loop-entry.invariant in
    let verdict = get_or c.args.verdicts.now (c.in-Some.entry.now.0 % 4294967296) 0 in
    noting_raised c.args.order.now.entries c.in-Some.entry.now c.next.new.self c.args.verdicts.now c.args.captured c.loop-entry.count verdict c.min-most.result (c.in-Some.entry.now.0 / 4294967296) c.raise-count.result c.loop-entry.kept c.raise-count.new.kept
    refl c.if-verdict-gt0.true refl c.min-most.ensures c.raise-count.ensures.most c.raise-count.ensures.raised p

pub loop-entry-preserved : goal.loop-entry-preserved
unfolding numbers
loop-entry-preserved c =
    let p = subst (λ it. Noting c.args.order.now.entries it c.args.verdicts.now c.args.captured c.loop-entry.count c.loop-entry.kept) c.in-Some.ensures.steps c.loop-entry.invariant in
    noting_past c.args.order.now.entries c.in-Some.entry.now c.next.new.self c.args.verdicts.now c.args.captured c.loop-entry.count c.loop-entry.kept (omega (arith, c.if-verdict-gt0.false)) p

pub returns : goal.returns
returns c = noting_all c.args.order.now.entries c.loop-entry.entry-iterator c.args.verdicts.now c.args.captured c.loop-entry.count c.loop-entry.kept c.in-None.ensures.steps.0 c.loop-entry.invariant
