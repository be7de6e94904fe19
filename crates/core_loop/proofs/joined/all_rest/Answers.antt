use Rattle.std.proofs.Common.{◌≡◌, ◌<◌, ◌-◌, ℕ, suc, sym, subst, arith}
use Rattle.core_links.specs.Flows.{IsResting, ring_flow}
use Rattle.core_links.specs.RingSlots.{ring_view}
use Rattle.core_loop.proofs.joined.all_rest.Goals as goal

pub returns-then-not-rests : goal.returns-then-not-rests
returns-then-not-rests c = (
  λ t. absurd (cc),
  λ all.
      let peer = c.loop-peer.peer in
      let is : suc (peer - 1) ≡ peer = omega (arith, c.loop-peer.invariant.0) in
      let rest : IsResting (ring_view c.args.links.now peer) (ring_flow c.args.links.now peer) =
      subst (λ (n : ℕ). IsResting (ring_view c.args.links.now n) (ring_flow c.args.links.now n)) is (all (peer - 1) (subst (λ (n : ℕ). n < c.args.cores) (sym is) c.loop-peer-test.true)) in
      let yes = c.rests.ensures.1 rest in
      let no = c.if-not-rests.true in
      absurd (cc),
)
