use Rattle.std.proofs.Common.{◌≡◌, ◌+◌, ◌∙◌, ℕ, suc, true, ap, sym, subst, arith}
use Rattle.core_links.specs.Views.{LinkView}
use Rattle.core_loop.proofs.Handing.{same_from_next, hands_below_next, hands_all}
use Rattle.core_loop.proofs.sending.send_short_to_all.Goals as goal

pub hand_short-requires-clause-ready : goal.hand_short-requires-clause-ready
hand_short-requires-clause-ready g c =
    let i = c.loop-entry.invariant in
    let at : c.loop-entry.entry + 1 ≡ suc c.loop-entry.entry = omega arith in
    subst (λ (n : ℕ). (g.L.Links.view c.loop-entry.links n).ready ≡ true) (sym at) (ap (λ (v : LinkView). v.ready) (i.1.rest c.loop-entry.entry (omega arith)) ∙ c.requires.ready c.loop-entry.entry c.loop-entry-test.true)

pub loop-entry-preserved : goal.loop-entry-preserved
loop-entry-preserved g c =
    let i = c.loop-entry.invariant in
    let view = g.L.Links.view in
    let at : c.loop-entry.entry + 1 ≡ suc c.loop-entry.entry = omega arith in (
      g.met.L.Links.same_along _ _ _ i.0 c.hand_short.ensures.links,
      same_from_next (view c.args.links.now) (view c.loop-entry.links) (view c.hand_short.new.links) c.loop-entry.entry (c.loop-entry.entry + 1) at i.1 c.hand_short.ensures.elsewhere,
      λ stamp m coded. hands_below_next stamp m (view c.args.links.now) (view c.loop-entry.links) (view c.hand_short.new.links) c.loop-entry.entry (c.loop-entry.entry + 1) at (i.2 stamp m coded) i.1 (c.hand_short.ensures.there stamp m coded) c.hand_short.ensures.elsewhere,
      λ p. c.hand_short.ensures.lines p ∙ i.3 p,
    )

pub returns-clause-sent : goal.returns-clause-sent
returns-clause-sent g c = λ stamp m coded.
    let i = c.loop-entry.invariant in
    hands_all c.args.others stamp m _ _ c.loop-entry.entry (omega (arith, c.loop-entry-test.false)) c.loop-entry.auto.entry-end (i.2 stamp m coded) i.1
