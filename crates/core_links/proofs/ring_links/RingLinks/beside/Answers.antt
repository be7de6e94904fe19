use Rattle.std.proofs.Common.{◌≡◌, ◌<◌, ℕ, Some, None, length, slice_index_or, slice_set, refl, subst, rules, ap, sym, ◌∙◌}
use Rattle.core_links.proofs.Flowing.{link_at, exact_at, flows_at_slot}
use Rattle.core_links.specs.Views.{LinkView}
use Rattle.core_links.specs.RingSlots.{link_to}
use Rattle.core_links.specs.Flows.{IsLooked}
use Rattle.core_links.proofs.Marking.{keep_still}
use Rattle.core_links.proofs.RingPlaces.{StandsBeside, stands_beside, prefix_at, within_here, within_there, joined_there}
use Rattle.core_links.proofs.ring_links.RingLinks.beside.Goals as goal

pub beside-requires : goal.beside-requires
beside-requires c =
    joined_there c.args.self.now c.args.other.now c.from-place.result c.from-back.result c.args.self.now.own c.args.other.now.own _ _ c.in-Some-Some.link c.in-Some-Some.its c.requires (search rules)
    (search rules) (sym c.index_mut.ensures.value ∙ c.in-Some-Some.is-0) (sym c.index_mut-2.ensures.value ∙ c.in-Some-Some.is-1)

pub invariant_of-self : goal.invariant_of-self
invariant_of-self c =
    let now = c.args.self.now in
    let lt : c.from-place.result < length now.slots.items = let is : c.from-place.result ≡ c.args.other.now.own = search rules in subst (λ (n : ℕ). n < length now.slots.items) (sym is) (within_here now.slots.items c.args.other.now.own _ c.requires) in
    let k = keep_still now.span now.marks now.slots.items c.from-place.result _ c.in-Some-Some.link c.beside.new.self lt (sym c.index_mut.ensures.value ∙ c.in-Some-Some.is-0) (record { below = now.below; moves = now.moves; dues = now.dues })
    c.beside.ensures.same_moved.0 (λ e. c.beside.ensures.here.ready ∙ e) in
    record { most = now.most; below = k.below; moves = k.moves; dues = k.dues; calms = λ t. absurd cc }

pub invariant_of-other : goal.invariant_of-other
invariant_of-other c =
    let now = c.args.other.now in
    let lt : c.from-back.result < length now.slots.items = let is : c.from-back.result ≡ c.args.self.now.own = search rules in subst (λ (n : ℕ). n < length now.slots.items) (sym is) (within_there (link_to c.args.self.now now.own) now.slots.items c.args.self.now.own c.requires) in
    let k = keep_still now.span now.marks now.slots.items c.from-back.result _ c.in-Some-Some.its c.beside.new.other lt (sym c.index_mut-2.ensures.value ∙ c.in-Some-Some.is-1) (record { below = now.below; moves = now.moves; dues = now.dues })
    c.beside.ensures.same_moved.1 (λ e. c.beside.ensures.there.ready ∙ e) in
    record { most = now.most; below = k.below; moves = k.moves; dues = k.dues; calms = λ t. absurd cc }

here : (c : goal.After-other-in-Some-index_mut-2-1) → StandsBeside c.args.self.now.slots.items c.from-place.result c.args.other.now.own c.beside.new.self
here c = stands_beside c.args.self.now.slots.items c.from-place.result c.args.other.now.own _ c.in-Some-Some.link c.beside.new.self (search rules) (within_here c.args.self.now.slots.items c.args.other.now.own _ c.requires)
    (sym c.index_mut.ensures.value ∙ c.in-Some-Some.is-0) c.beside.ensures.links.0 c.beside.ensures.here

there : (c : goal.After-other-in-Some-index_mut-2-1) → StandsBeside c.args.other.now.slots.items c.from-back.result c.args.self.now.own c.beside.new.other
there c = stands_beside c.args.other.now.slots.items c.from-back.result c.args.self.now.own _ c.in-Some-Some.its c.beside.new.other (search rules) (within_there (link_to c.args.self.now c.args.other.now.own) c.args.other.now.slots.items c.args.self.now.own c.requires)
    (sym c.index_mut-2.ensures.value ∙ c.in-Some-Some.is-1) c.beside.ensures.links.1 c.beside.ensures.there

pub returns-clause-links : goal.returns-clause-links
returns-clause-links c = (record { own = refl; machine = refl; count = refl; each = (here c).each }, record { own = refl; machine = refl; count = refl; each = (there c).each })

pub returns-clause-here : goal.returns-clause-here
returns-clause-here c = (here c).views

pub returns-clause-there : goal.returns-clause-there
returns-clause-there c = (there c).views

pub returns-clause-sound : goal.returns-clause-sound
returns-clause-sound c = (ap (λ (v : LinkView). v.stopped) (here c).view ∙ c.beside.ensures.sound.0, ap (λ (v : LinkView). v.stopped) (there c).view ∙ c.beside.ensures.sound.1)

pub returns-clause-took : goal.returns-clause-took
returns-clause-took c = prefix_at (sym (here c).view) (sym (there c).view) c.beside.ensures.took

pub returns-clause-gave : goal.returns-clause-gave
returns-clause-gave c = prefix_at (sym (there c).view) (sym (here c).view) c.beside.ensures.gave

within_self : (c : goal.After-other-in-Some-index_mut-2-1) → c.from-place.result < length c.args.self.now.slots.items
within_self c = let is : c.from-place.result ≡ c.args.other.now.own = search rules in subst (λ (n : ℕ). n < length c.args.self.now.slots.items) (sym is) (within_here c.args.self.now.slots.items c.args.other.now.own _ c.requires)

within_other : (c : goal.After-other-in-Some-index_mut-2-1) → c.from-back.result < length c.args.other.now.slots.items
within_other c = let is : c.from-back.result ≡ c.args.self.now.own = search rules in subst (λ (n : ℕ). n < length c.args.other.now.slots.items) (sym is) (within_there (link_to c.args.self.now c.args.other.now.own) c.args.other.now.slots.items c.args.self.now.own c.requires)

at_self : (c : goal.After-other-in-Some-index_mut-2-1) → slice_index_or (slice_set c.args.self.now.slots.items c.from-place.result (Some c.beside.new.self)) c.args.other.now.own None ≡ Some c.beside.new.self
at_self c = link_at c.args.self.now.slots.items c.from-place.result c.args.other.now.own c.beside.new.self (search rules) (within_self c)

at_other : (c : goal.After-other-in-Some-index_mut-2-1) → slice_index_or (slice_set c.args.other.now.slots.items c.from-back.result (Some c.beside.new.other)) c.args.self.now.own None ≡ Some c.beside.new.other
at_other c = link_at c.args.other.now.slots.items c.from-back.result c.args.self.now.own c.beside.new.other (search rules) (within_other c)

pub returns-clause-exact : goal.returns-clause-exact
returns-clause-exact c = (exact_at _ _ c.beside.new.self c.beside.new.other (at_self c) (at_other c) c.beside.ensures.exact_out, exact_at _ _ c.beside.new.other c.beside.new.self (at_other c) (at_self c) c.beside.ensures.exact_in)

pub returns-clause-still : goal.returns-clause-still
returns-clause-still c = (
  flows_at_slot c.args.self.now.slots.items c.from-place.result c.args.other.now.own _ c.in-Some-Some.link c.beside.new.self IsLooked (search rules) (sym c.index_mut.ensures.value ∙ c.in-Some-Some.is-0) (within_self c) c.beside.ensures.still.0,
  flows_at_slot c.args.other.now.slots.items c.from-back.result c.args.self.now.own _ c.in-Some-Some.its c.beside.new.other IsLooked (search rules) (sym c.index_mut-2.ensures.value ∙ c.in-Some-Some.is-1) (within_other c) c.beside.ensures.still.1,
)
