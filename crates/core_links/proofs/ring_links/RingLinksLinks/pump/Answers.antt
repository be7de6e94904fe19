use Rattle.std.proofs.Common.{◌≡◌, List, Option, length, subst, sym, ap, ◌∙◌}
use Rattle.std.specs.Vec.{with_items}
use Rattle.std.proofs.lemmas.List.{with_items_is}
use Rattle.core_links.specs.declared.ring_links.Link.{Link}
use Rattle.core_links.specs.Marks.{LieBelow, TellMoved, TellDue}
use Rattle.core_links.proofs.Pumping.{below_along}
use Rattle.core_links.specs.Ends.{AreEmptyEnds}
use Rattle.core_links.proofs.Calming.{pumped_empty}
use Rattle.core_links.proofs.ring_links.RingLinksLinks.pump.Goals as goal

pub invariant_of-self : goal.invariant_of-self
invariant_of-self c =
    let now = c.args.self.now in
    let pumped = c.pump_due-self in
    let long : length pumped.new.slots ≡ length now.slots.items = pumped.auto.slots ∙ ap length c.deref_mut.ensures.value in
    let is : (with_items now.slots pumped.new.slots).items ≡ pumped.new.slots = with_items_is now.slots pumped.new.slots (long ∙ sym now.slots.ok.0) in
    record {
      most = now.most;
      below = subst (λ (xs : List (Option Link)). LieBelow now.span xs) (sym is) (below_along now.span c.deref_mut.result.now pumped.new.slots (λ p. (pumped.ensures.each p).same) (subst (λ (xs : List (Option Link)). LieBelow now.span xs) (sym c.deref_mut.ensures.value) now.below));
      moves = subst (λ (xs : List (Option Link)). TellMoved pumped.result.moved xs) (sym is) pumped.ensures.moves;
      dues = subst (λ (xs : List (Option Link)). TellDue pumped.result.due xs) (sym is) pumped.ensures.dues;
      calms = λ t. subst (λ (xs : List (Option Link)). AreEmptyEnds xs) (sym is)
          (pumped_empty c.deref_mut.result.now pumped.new.slots pumped.ensures.each (subst (λ (xs : List (Option Link)). AreEmptyEnds xs) (sym c.deref_mut.ensures.value) (now.calms t)));
    }
