use Rattle.std.proofs.Common.{rules, refl, sym, ap, ◌∙◌}
use Rattle.core_links.specs.Views.{GivenUp}
use Rattle.core_links.specs.Flows.{Flow}
use Rattle.core_links.proofs.RingPlaces.{at_slot}
use Rattle.core_links.proofs.Flowing.{flows_same}
use Rattle.core_links.proofs.Marking.{keep_still}
use Rattle.core_links.proofs.Calming.{still_empty, calm_given}
use Rattle.core_links.proofs.ring_links.RingLinksLinks.give_up.Goals as goal

pub invariant_of-self-in-Some : goal.invariant_of-self-in-Some
invariant_of-self-in-Some c =
    let k = keep_still c.args.self.now.span c.args.self.now.marks c.args.self.now.slots.items c.from-place.result _ c.in-Some.link c.give_up.new.self (search rules) (sym c.index_mut.ensures.value ∙ c.in-Some.is) (record { below = c.args.self.now.below; moves = c.args.self.now.moves; dues = c.args.self.now.dues })
    (ap (λ (f : Flow). f.moved) c.give_up.ensures.lines) (λ e. c.give_up.ensures.given.ready ∙ e) in
    record { most = c.args.self.now.most; below = k.below; moves = k.moves; dues = k.dues; calms = λ t. still_empty c.args.self.now.slots.items c.from-place.result _ c.in-Some.link c.give_up.new.self (search rules) (sym c.index_mut.ensures.value ∙ c.in-Some.is) (calm_given c.in-Some.link c.give_up.new.self c.give_up.ensures.given c.give_up.ensures.lines) (c.args.self.now.calms t) }

pub returns-in-Some-clause-given : goal.returns-in-Some-clause-given
returns-in-Some-clause-given c =
    let h = at_slot c.args.self.now.slots.items c.from-place.result c.args.peer _ c.in-Some.link c.give_up.new.self GivenUp (search rules) (sym c.index_mut.ensures.value ∙ c.in-Some.is) (search rules) c.give_up.ensures.link c.give_up.ensures.given in
    (record { own = refl; machine = refl; count = refl; each = h.each }, h.here, h.others)

pub returns-in-Some-clause-lines : goal.returns-in-Some-clause-lines
returns-in-Some-clause-lines c = flows_same c.args.self.now.slots.items c.from-place.result _ c.in-Some.link c.give_up.new.self (sym c.index_mut.ensures.value ∙ c.in-Some.is) (search rules) c.give_up.ensures.lines
