use Rattle.std.proofs.Common.{◌≡◌, ◌∙◌, ◌++◌, ◌∷◌, [], ap, arith, IsOk, List, ℕ, length, sym, subst}
use Rattle.filter_group.specs.Placed.{Placed}
use Rattle.filter_group.specs.Places.{IsIndexed}
use Rattle.filter_group.proofs.Gathering.{standing}
use Rattle.filter_group.proofs.placements.stand_alone.Goals as goal

pub returns-clause-done : goal.returns-clause-done
returns-clause-done c = λ programs h.
    let groups = c.args.groups.now.items in
    let parts = c.args.parts.now.items in
    let program = c.args.program.now in
    let group = c.in_ok-group.group in
    let ok : IsOk c.push-2.result = c.push-2.ensures.succeeds c.requires.room in
    let groups_are : c.push-2.new.self.items ≡ groups ++ group ∷ [] = grind arith in
    let last : group ≡ length parts = c.in_ok-group.ensures.same ∙ (let n = c.len.ensures in let fits = c.args.parts.now.ok.0 in omega arith) in
    let part_is : c.in_ok-part.part ≡ record { members = program ∷ []; places = length programs ∷ [] } =
    c.in_ok-part.ensures ∙ ap (λ (n : ℕ). record { members = program ∷ []; places = n ∷ [] }) (c.requires.place ∙ h.count) in
    let parts_are : c.push.new.self.items ≡ parts ++ record { members = program ∷ []; places = length programs ∷ [] } ∷ [] =
    c.in_ok-push.ensures.items ∙ ap (λ (p : Placed). parts ++ p ∷ []) part_is in
    subst (λ (xs : List ℕ). IsIndexed (programs ++ program ∷ []) xs c.push.new.self.items) (sym groups_are)
    (subst (IsIndexed (programs ++ program ∷ []) (groups ++ group ∷ [])) (sym parts_are) (standing programs groups parts h program group last))
