use Rattle.std.proofs.Common.{ℕ, List, None, Some, false, subst, rules, refl, arith, sym, ◌∙◌}
use Rattle.core_links.specs.Views.{LinkView, Pulled}
use Rattle.core_links.specs.Flows.{FlowsIn, link_flow}
use Rattle.core_links.proofs.Places.{any_default}
use Rattle.core_links.proofs.RingPlaces.{at_slot, view_at, view_in}
use Rattle.core_links.proofs.Flowing.{flows_at_slot}
use Rattle.core_links.proofs.Marking.{keep_noted, due_still, lies_below, no_part}
use Rattle.std.proofs.Common.{slice_set, ◌↔◌, ◌≢◌, [], IfOk, IsTrue}
use Rattle.core_links.proofs.ring_links.RingLinksLinks.shows.Goals as goal

pub invariant_of-self-in-Some : goal.invariant_of-self-in-Some
invariant_of-self-in-Some c =
    let k = keep_noted c.args.self.now.span c.args.self.now.marks c.note.new.self c.args.self.now.slots.items c.from-place.result (Some c.in-Some.link) c.shows-shows.new.self c.shows-shows.new.self.moved false (search rules) (any_default c.args.self.now.slots.items c.from-place.result None _ (search rules) ∙ (sym c.index_mut.ensures.value ∙ c.in-Some.is)) (record { below = c.args.self.now.below; moves = c.args.self.now.moves; dues = c.args.self.now.dues }) c.note.ensures
    (λ e. e) (λ e. e ∙ sym (c.shows-shows.ensures.lines.still e).0) (λ e still. due_still c.in-Some.link c.shows-shows.new.self (λ _. (no_part c.shows-shows.new.self.moved false e).0) c.shows-shows.ensures.pulled.arrived.ready still) c.args.self.now.span (omega arith) (lies_below c.args.self.now.span c.args.self.now.slots.items c.from-place.result _ c.in-Some.link (search rules) (sym c.index_mut.ensures.value ∙ c.in-Some.is) c.args.self.now.below) in
    record { most = c.args.self.now.most; below = k.below; moves = k.moves; dues = k.dues; calms = λ t. absurd cc }

pub returns-in-Some-clause-pulled : goal.returns-in-Some-clause-pulled
returns-in-Some-clause-pulled c =
    let h = at_slot c.args.self.now.slots.items c.from-place.result c.args.peer _ c.in-Some.link c.shows-shows.new.self (λ v w. Pulled v w c.shows-shows.result) (search rules) (sym c.index_mut.ensures.value ∙ c.in-Some.is) (search rules) c.shows-shows.ensures.link c.shows-shows.ensures.pulled in
    (record { own = refl; machine = refl; count = refl; each = h.each }, h.here, h.others)

pub returns-in-Some-clause-lines : goal.returns-in-Some-clause-lines
returns-in-Some-clause-lines c =
    let kept : List (List ℕ) = (view_in (slice_set c.args.self.now.slots.items c.from-place.result (Some c.shows-shows.new.self)) c.args.peer).kept in
    flows_at_slot c.args.self.now.slots.items c.from-place.result c.args.peer _ c.in-Some.link c.shows-shows.new.self (λ v w. FlowsIn v w kept c.shows-shows.result) (search rules) (sym c.index_mut.ensures.value ∙ c.in-Some.is) (search rules)
    (subst (λ (v : LinkView). FlowsIn (link_flow c.in-Some.link) (link_flow c.shows-shows.new.self) v.kept c.shows-shows.result) (sym (view_at c.args.self.now.slots.items c.from-place.result c.args.peer c.shows-shows.new.self (search rules) (search rules))) c.shows-shows.ensures.lines)

pub returns-in-Some-clause-kept : goal.returns-in-Some-clause-kept
returns-in-Some-clause-kept c =
    subst (λ (v : LinkView). IfOk c.shows-shows.result (λ shows. IsTrue shows ↔ (v.kept ≢ []))) (sym (view_at c.args.self.now.slots.items c.from-place.result c.args.peer c.shows-shows.new.self (search rules) (search rules))) c.shows-shows.ensures.kept
