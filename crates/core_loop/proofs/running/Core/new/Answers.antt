use Rattle.std.proofs.Common.{sym, ap, subst, arith, List}
use Rattle.world_histories.specs.declared.history.Stamped.{Stamped}
use Rattle.core_loop.specs.Keeping.{IsStanding}
use Rattle.core_loop.specs.InTurn.{last_begun}
use Rattle.core_loop.specs.Answering.{IsGivenCount}
use Rattle.core_loop.proofs.running.Core.new.Goals as goal

pub invariant_of-result : goal.invariant_of-result
invariant_of-result g c = (
  c.requires.number,
  c.requires.cores,
  subst (λ (h : List Stamped). IsStanding c.in_ok-part.part c.args.number c.args.cores 0 h (g.L.Links.view c.args.links)) (sym c.new-2.ensures) (c.in_ok-part.ensures.stands (g.L.Links.view c.args.links) c.requires.silent),
  c.requires.short,
  ap last_begun (sym c.new-2.ensures),
  tt,
  subst (λ (h : List Stamped). IsGivenCount c.len-given.result h c.args.requests.items) (sym c.new-2.ensures) (omega (arith, c.len-given.ensures, c.len-given.type_inv)),
)
