use Rattle.std.proofs.Common.{None, Some, true, false, rules, refl, sym, ap, ◌∙◌, arith}
use Rattle.core_links.specs.Views.{HandedOver}
use Rattle.core_links.specs.Flows.{Flow}
use Rattle.core_links.proofs.Places.{any_default}
use Rattle.core_links.proofs.RingPlaces.{at_slot}
use Rattle.core_links.proofs.Flowing.{flows_same}
use Rattle.core_links.proofs.Marking.{keep_noted, lies_below}
use Rattle.core_links.proofs.Calming.{still_empty, calm_handed}
use Rattle.core_links.proofs.ring_links.RingLinksLinks.send.Goals as goal

pub invariant_of-self-in-Some : goal.invariant_of-self-in-Some
invariant_of-self-in-Some c =
    let k = keep_noted c.args.self.now.span c.args.self.now.marks c.note.new.self c.args.self.now.slots.items c.from-place.result (Some c.in-Some.link) c.send.new.self false true (search rules) (any_default c.args.self.now.slots.items c.from-place.result None _ (search rules) ∙ (sym c.index_mut.ensures.value ∙ c.in-Some.is)) (record { below = c.args.self.now.below; moves = c.args.self.now.moves; dues = c.args.self.now.dues }) c.note.ensures
    (λ e. absurd cc) (λ _. ap (λ (f : Flow). f.moved) c.send.ensures.lines) (λ e. absurd cc) c.args.self.now.span (omega arith) (lies_below c.args.self.now.span c.args.self.now.slots.items c.from-place.result _ c.in-Some.link (search rules) (sym c.index_mut.ensures.value ∙ c.in-Some.is) c.args.self.now.below) in
    record { most = c.args.self.now.most; below = k.below; moves = k.moves; dues = k.dues; calms = λ t. still_empty c.args.self.now.slots.items c.from-place.result _ c.in-Some.link c.send.new.self (search rules) (sym c.index_mut.ensures.value ∙ c.in-Some.is) (calm_handed c.in-Some.link c.send.new.self c.args.message c.send.result c.send.ensures.sent c.send.ensures.lines) (c.args.self.now.calms t) }

pub returns-in-Some-clause-sent : goal.returns-in-Some-clause-sent
returns-in-Some-clause-sent c =
    let h = at_slot c.args.self.now.slots.items c.from-place.result c.args.peer _ c.in-Some.link c.send.new.self (λ v w. HandedOver v w c.args.message c.send.result) (search rules) (sym c.index_mut.ensures.value ∙ c.in-Some.is) (search rules) c.send.ensures.link c.send.ensures.sent in
    (record { own = refl; machine = refl; count = refl; each = h.each }, h.here, h.others)

pub returns-in-Some-clause-lines : goal.returns-in-Some-clause-lines
returns-in-Some-clause-lines c = flows_same c.args.self.now.slots.items c.from-place.result _ c.in-Some.link c.send.new.self (sym c.index_mut.ensures.value ∙ c.in-Some.is) (search rules) c.send.ensures.lines
