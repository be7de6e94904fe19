use Rattle.std.proofs.Common.{◌≡◌, ◌+◌, ◌∷◌, ◌∙◌, [], ℕ, List, suc, true, Some, length, ap, sym, subst, arith}
use Rattle.std.proofs.lemmas.List.{length-append}
use Rattle.std.proofs.lemmas.List.Elements.{All-pop}
use Rattle.core_links.specs.Views.{LinkView}
use Rattle.monitor_messages.specs.Coding.{Coded}
use Rattle.core_loop.specs.Sending.{FitLink}
use Rattle.core_loop.proofs.Handing.{same_from_next, hands_below_next, hands_all}
use Rattle.core_loop.proofs.sending.send_all.Goals as goal
use Rattle.core_loop.proofs.sending.send_all.Goals.{in-Some, in-None}

pub hand_shared-requires-clause-ready : goal.hand_shared-requires-clause-ready
hand_shared-requires-clause-ready g c =
    let i = c.loop-entry.invariant in
    let at : c.loop-entry.entry + 1 ≡ suc c.loop-entry.entry = omega arith in
    subst (λ (n : ℕ). (g.L.Links.view c.loop-entry.links n).ready ≡ true) (sym at) (ap (λ (v : LinkView). v.ready) (i.3.rest c.loop-entry.entry (omega arith)) ∙ c.requires.ready c.loop-entry.entry c.loop-entry-test.true)

pub hand_shared-requires-clause-lengths : goal.hand_shared-requires-clause-lengths
hand_shared-requires-clause-lengths g c = (All-pop FitLink c.loop-entry.pieces.items c.pop.new.self.items (Some c.in-Some.piece) c.in-Some.ensures.items c.loop-entry.invariant.1).1

pub loop-entry-preserved : goal.loop-entry-preserved
loop-entry-preserved g c = elim c.match-pop.branch [
  | in-Some w ↦
      let i = c.loop-entry.invariant in
      let e = w.in-Some.ensures.items in
      let view = g.L.Links.view in
      let at : c.loop-entry.entry + 1 ≡ suc c.loop-entry.entry = omega arith in (
        omega (arith, ap length e, length-append c.pop.new.self.items (w.in-Some.piece ∷ []), i.0),
        (All-pop FitLink c.loop-entry.pieces.items c.pop.new.self.items (Some w.in-Some.piece) e i.1).0,
        rw w.links-is (g.met.L.Links.same_along _ _ _ i.2 w.hand_shared.ensures.links),
        rw w.links-is (same_from_next (view c.args.links.now) (view c.loop-entry.links) (view w.hand_shared.new.links) c.loop-entry.entry (c.loop-entry.entry + 1) at i.3 w.hand_shared.ensures.elsewhere),
        λ stamp m coded.
            let b = i.4 stamp m coded in
            let q = All-pop (λ (bytes : List ℕ). Coded bytes stamp m) c.loop-entry.pieces.items c.pop.new.self.items (Some w.in-Some.piece) e b.0 in
            (q.0, rw w.links-is (hands_below_next stamp m (view c.args.links.now) (view c.loop-entry.links) (view w.hand_shared.new.links) c.loop-entry.entry (c.loop-entry.entry + 1) at b.1 i.3 (w.hand_shared.ensures.there stamp m q.1) w.hand_shared.ensures.elsewhere)),
        rw w.links-is (λ p. w.hand_shared.ensures.lines p ∙ i.5 p),
      )
  | in-None w ↦ absurd (omega (arith, w.in-None.ensures.cases, c.loop-entry.pieces.ok.0, c.loop-entry.invariant.0, c.loop-entry-test.true))
]

pub returns-clause-sent : goal.returns-clause-sent
returns-clause-sent g c = λ stamp m coded.
    let i = c.loop-entry.invariant in
    hands_all c.args.others stamp m _ _ c.loop-entry.entry (omega (arith, c.loop-entry-test.false)) (omega (arith, i.0)) (i.4 stamp m coded).1 i.3
