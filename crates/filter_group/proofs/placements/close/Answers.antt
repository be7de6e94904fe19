use Rattle.std.proofs.Common.{arith, ap, sym, subst, ◌∙◌, ◌≡◌, ◌<◌, ◌+◌, ◌-◌, ℕ, List, length, Some, slice_get, slice_set, take, get_or}
use Rattle.std.specs.Vec.{with_items}
use Rattle.std.proofs.lemmas.List.{with_items_is}
use Rattle.std.proofs.lemmas.Option.{slice_get-get_or, slice_get_within}
use Rattle.filter_group.specs.Placed.{Placed}
use Rattle.filter_group.specs.Places.{AreRenumbered, IsIndexed}
use Rattle.filter_group.proofs.Closing.{closed, closed_parts}
use Rattle.filter_group.proofs.Edits.{take_at}
use Rattle.filter_group.proofs.Indexed.{set_other}
use Rattle.filter_group.proofs.Sides.{one_thing}
use Rattle.filter_group.proofs.placements.close.Goals as goal

pub renumber-requires : goal.renumber-requires
renumber-requires c = λ member place at_place.
    let groups = c.args.groups.now.items in
    let parts = c.args.parts.now.items in
    let last : ℕ = c.len-last.result - 1 in
    let part = c.index-2.result.now in
    let low : last < length parts = let inside = c.if-number-len.false in let first = c.len.ensures in let second = c.len-last.ensures in let ok = c.args.parts.now.ok.0 in omega arith in
    let at : slice_get parts last ≡ Some part = slice_get-get_or parts last part low ∙ ap Some (sym c.index-2.ensures) in
    let within = slice_get_within groups place last ((c.requires.1.each last part at).back member place at_place).0 in
    omega (arith, ap (length {A = ℕ}) c.deref_mut.ensures.value)

pub returns-clause-kept : goal.returns-clause-kept
returns-clause-kept c = λ programs h.
    let groups = c.args.groups.now.items in
    let parts = c.args.parts.now.items in
    let group = c.args.group in
    let last : ℕ = length parts - 1 in
    let there : c.len-last.result - 1 ≡ last = let second = c.len-last.ensures in let ok = c.args.parts.now.ok.0 in omega arith in
    let inside : group < length parts = let inside = c.if-number-len.false in let first = c.len.ensures in let ok = c.args.parts.now.ok.0 in omega arith in
    let low : last < length parts = omega arith in
    let long : length parts ≡ last + 1 = omega arith in
    let empty = c.index.result.now in
    let at_group : slice_get parts group ≡ Some empty = slice_get-get_or parts group empty inside ∙ ap Some (sym c.index.ensures) in
    let none = c.is_empty.ensures c.if-not-is_empty.false in
    let part = c.index-2.result.now in
    let low' : c.len-last.result - 1 < length parts = omega arith in
    let at : slice_get parts last ≡ Some part = subst (λ (n : ℕ). slice_get parts n ≡ Some part) there (slice_get-get_or parts (c.len-last.result - 1) part low' ∙ ap Some (sym c.index-2.ensures)) in
    let moved = get_or parts last c.swap_remove.result in
    let at_last : slice_get parts last ≡ Some moved = slice_get-get_or parts last c.swap_remove.result low in
    let are : AreRenumbered groups moved.places group c.renumber.new.groups =
    subst (λ (p : Placed). AreRenumbered groups p.places group c.renumber.new.groups) (one_thing parts last part moved at at_last)
    (subst (λ (xs : List ℕ). AreRenumbered xs part.places group c.renumber.new.groups) c.deref_mut.ensures.value c.renumber.ensures) in
    let whole : (with_items c.args.groups.now c.renumber.new.groups).items ≡ c.renumber.new.groups = with_items_is c.args.groups.now c.renumber.new.groups (omega (arith, are.count)) in
    let left : c.swap_remove.new.self.items ≡ closed_parts programs groups parts h group last empty moved at_group none long at_last c.renumber.new.groups are = c.swap_remove.ensures.items in
    subst (λ (xs : List ℕ). IsIndexed programs xs c.swap_remove.new.self.items) (sym whole)
    (subst (IsIndexed programs c.renumber.new.groups) (sym left) (closed programs groups parts h group last empty moved at_group none long at_last c.renumber.new.groups are))

pub returns-clause-long : goal.returns-clause-long
returns-clause-long c = λ count before within.
    let parts = c.args.parts.now.items in
    let inside : c.args.group < length parts = let inside = c.if-number-len.false in let first = c.len.ensures in let ok = c.args.parts.now.ok.0 in omega arith in
    let left = c.swap_remove.ensures.len in
    omega (arith, c.args.parts.now.ok.0, c.swap_remove.new.self.ok.0)

pub returns-clause-below : goal.returns-clause-below
returns-clause-below c = λ other low.
    let parts = c.args.parts.now.items in
    let group = c.args.group in
    let last : ℕ = length parts - 1 in
    let inside : group < length parts = let inside = c.if-number-len.false in let first = c.len.ensures in let ok = c.args.parts.now.ok.0 in omega arith in
    let moved = get_or parts last c.swap_remove.result in
    let left : c.swap_remove.new.self.items ≡ take last (slice_set parts group moved) = c.swap_remove.ensures.items in
    ap (λ (ps : List Placed). slice_get ps other) left ∙ (take_at (slice_set parts group moved) last other (omega arith) ∙ set_other parts group other moved (omega arith))
