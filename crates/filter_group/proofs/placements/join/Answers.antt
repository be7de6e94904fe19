use Rattle.std.proofs.Common.{◌≡◌, ◌∙◌, ◌++◌, ◌∷◌, [], IsOk, ap, arith, length, List, ℕ, slice_set, sym, subst}
use Rattle.filter_group.specs.Placed.{Placed}
use Rattle.filter_group.specs.Places.{IsIndexed, part_with}
use Rattle.std.proofs.lemmas.Option.{slice_get_within}
use Rattle.filter_group.proofs.Gathering.{joined, read_is}
use Rattle.filter_group.proofs.KeptPlan.{other_at}
use Rattle.filter_group.proofs.placements.join.Goals as goal

pub returns-clause-done : goal.returns-clause-done
returns-clause-done c = λ programs h.
    let home = c.requires.home in
    let groups = c.args.groups.now.items in
    let parts = c.args.parts.now.items in
    let group = c.args.home.group in
    let member = c.args.home.member in
    let program = c.args.program.now in
    let is : home.part ≡ c.index_mut-part.result.now = read_is parts group home.part c.index_mut-part.result.now home.there c.index_mut-part.ensures.value in
    let ok : IsOk c.push.result = c.push.ensures.succeeds c.requires.room in
    let groups_are : c.push.new.self.items ≡ groups ++ group ∷ [] = grind arith in
    let part_is : c.insert.new.self ≡ part_with home.part member (length programs) program =
    c.in_ok-insert.ensures.done ∙ (ap (λ (p : Placed). part_with p member c.args.place program) (sym is) ∙ ap (λ (n : ℕ). part_with home.part member n program) (c.requires.place ∙ h.count)) in
    subst (λ (xs : List ℕ). IsIndexed (programs ++ program ∷ []) xs (slice_set parts group c.insert.new.self)) (sym groups_are)
    (subst (λ (p : Placed). IsIndexed (programs ++ program ∷ []) (groups ++ group ∷ []) (slice_set parts group p)) (sym part_is)
    (joined programs groups parts h program group home.part home.there member home.within))

pub returns-clause-joined : goal.returns-clause-joined
returns-clause-joined c = (c.insert.new.self, other_at c.args.parts.now.items c.args.home.group c.insert.new.self (slice_get_within c.args.parts.now.items c.args.home.group c.requires.home.part c.requires.home.there))
