use Rattle.std.proofs.Common.{◌∙◌, arith, subst}
use Rattle.installed_filters.proofs.Walks.{Raising, raising_all, raising_begins, raising_key, raising_more}
use Rattle.installed_filters.proofs.endpoints.raise_all.Goals as goal

pub loop-entry-init : goal.loop-entry-init
loop-entry-init c =
    raising_begins c.args.all.now.entries c.into_iter-entry-iterator.result c.args.raises.now.items c.args.verdict (c.into_iter-entry-iterator.ensures.into_iter_gives ∙ c.iter-entry-items.ensures.entries)

pub overflow_cast-entry : goal.overflow_cast-entry
overflow_cast-entry c =
    let p = subst (λ rest. Raising c.args.all.now.entries rest c.args.raises.now.items c.loop-entry.raises.items c.args.verdict) c.in-Some.ensures.steps c.loop-entry.invariant in
    let lt = c.requires.small c.in-Some.entry.now.0 (raising_key c.args.all.now.entries c.in-Some.entry.now c.next.new.self c.args.raises.now.items c.loop-entry.raises.items c.args.verdict p) in omega (arith, lt)

pub loop-entry-preserved : goal.loop-entry-preserved
loop-entry-preserved c =
    let p = subst (λ rest. Raising c.args.all.now.entries rest c.args.raises.now.items c.loop-entry.raises.items c.args.verdict) c.in-Some.ensures.steps c.loop-entry.invariant in
    raising_more c.args.all.now.entries c.in-Some.entry.now c.next.new.self c.args.raises.now.items c.loop-entry.raises.items c.push.new.self.items c.args.verdict c.in_ok-push.ensures.items p

pub returns : goal.returns
returns c =
    raising_all c.args.all.now.entries c.loop-entry.entry-iterator c.args.raises.now.items c.loop-entry.raises.items c.args.verdict c.in-None.ensures.steps.0 c.loop-entry.invariant
