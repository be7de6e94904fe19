use Rattle.std.proofs.Common.{◌≡◌, ◌∙◌, ◌<◌, ◌+◌, ◌-◌, [], arith, ap, length, List, ℕ, Some, get_or, slice_get, slice_set, subst, sym, take}
use Rattle.std.proofs.lemmas.Option.{slice_get-get_or}
use Rattle.bpf_insn.specs.declared.insn.Insn.{Insn}
use Rattle.filter_group.specs.Placed.{Placed}
use Rattle.filter_group.specs.Places.{HasMoved}
use Rattle.filter_group.proofs.Fewer.{plan_fewer}
use Rattle.filter_group.proofs.Gathering.{member_there}
use Rattle.filter_group.proofs.Removed.{IsTaken, last_there, taken_before, taken_last}
use Rattle.filter_group.proofs.Sides.{one_thing}
use Rattle.filter_group.proofs.placements.take_from.Goals.{then-number-last, else-number-last}
use Rattle.filter_group.proofs.placements.take_from.Goals as goal

-- what is read is what stands there
read : (groups : List ℕ) (place number : ℕ) → place < length groups → number ≡ get_or groups place number → slice_get groups place ≡ Some number
read groups place number low is = slice_get-get_or groups place number low ∙ ap Some (sym is)

pub leave-requires : goal.leave-requires
leave-requires c =
    let groups = c.args.groups.now.items in
    let h = c.requires.indexed in
    let low : c.args.place < length groups = let within = c.requires.within in let count = h.count in omega arith in
    member_there c.args.programs.now.items groups c.args.parts.now.items h c.args.place c.index.result.now (read groups c.args.place c.index.result.now low c.index.ensures)

pub fill-requires : goal.fill-requires
fill-requires c =
    let programs = c.args.programs.now.items in
    let groups = c.args.groups.now.items in
    let h = c.requires.indexed in
    let last : ℕ = c.len-last.result - 1 in
    let count = h.count in
    let within = c.requires.within in
    let low : c.args.place < length groups = omega arith in
    let long : length programs ≡ last + 1 = let all = c.len-last.ensures in let ok = c.args.programs.now.ok.0 in omega arith in
    let below : c.args.place < last = let apart = c.if-number-last.true in omega arith in
    let number = c.index-then-number-last.result.now in
    last_there programs groups c.args.parts.now.items h c.args.place last c.index.result.now (read groups c.args.place c.index.result.now low c.index.ensures) long
    c.leave.new.parts.items c.leave.ensures (get_or programs last []) (slice_get-get_or programs last [] (omega arith)) number
    (read groups last number (omega arith) c.index-then-number-last.ensures) below

pub returns : goal.returns
returns c =
    let programs = c.args.programs.now.items in
    let groups = c.args.groups.now.items in
    let parts = c.args.parts.now.items in
    let h = c.requires.indexed in
    let place = c.args.place in
    let last : ℕ = c.len-last.result - 1 in
    let count = h.count in
    let within = c.requires.within in
    let low : place < length groups = omega arith in
    let long : length programs ≡ last + 1 = let all = c.len-last.ensures in let ok = c.args.programs.now.ok.0 in omega arith in
    let at = read groups place c.index.result.now low c.index.ensures in
    let moved = get_or programs last c.swap_remove-2.result in
    let at_moved : slice_get programs last ≡ Some moved = slice_get-get_or programs last c.swap_remove-2.result (omega arith) in
    let number = get_or groups last c.swap_remove.result in
    let at_number : slice_get groups last ≡ Some number = slice_get-get_or groups last c.swap_remove.result (omega arith) in
    let end : length programs - 1 ≡ last = omega arith in
    let end_groups : length groups - 1 ≡ last = omega arith in
    let programs_are : c.swap_remove-2.new.self.items ≡ take last (slice_set programs place moved) =
    c.swap_remove-2.ensures.items ∙ ap (λ (n : ℕ). take n (slice_set programs place (get_or programs n c.swap_remove-2.result))) end in
    let groups_are : c.swap_remove.new.self.items ≡ take last (slice_set groups place number) =
    c.swap_remove.ensures.items ∙ ap (λ (n : ℕ). take n (slice_set groups place (get_or groups n c.swap_remove.result))) end_groups in
    let taken : IsTaken programs parts place (take last (slice_set programs place moved)) (take last (slice_set groups place number)) c.if-number-last.parts.items = elim c.if-number-last.branch [
      | then-number-last w ↦
          let below : place < last = let apart = w.if-number-last.true in omega arith in
          let is : w.index-then-number-last.result.now ≡ number = one_thing groups last w.index-then-number-last.result.now number
          (read groups last w.index-then-number-last.result.now (omega arith) w.index-then-number-last.ensures) at_number in
          subst (λ (ps : List Placed). IsTaken programs parts place (take last (slice_set programs place moved)) (take last (slice_set groups place number)) ps) (sym (ap (λ v. v.items) w.parts-is))
          (taken_before programs groups parts h place last c.index.result.now at long c.leave.new.parts.items c.leave.ensures moved at_moved number at_number below w.fill.new.parts.items
          (subst (λ (n : ℕ). HasMoved c.leave.new.parts.items n last place w.fill.new.parts.items) is w.fill.ensures))
      | else-number-last w ↦
          subst (λ (ps : List Placed). IsTaken programs parts place (take last (slice_set programs place moved)) (take last (slice_set groups place number)) ps) (sym (ap (λ v. v.items) w.parts-is))
          (taken_last programs groups parts h place last c.index.result.now at long c.leave.new.parts.items c.leave.ensures moved at_moved number at_number w.if-number-last.false)
    ] in
    let found : IsTaken programs parts place c.swap_remove-2.new.self.items c.swap_remove.new.self.items c.if-number-last.parts.items =
    subst (λ (ps : List (List Insn)). IsTaken programs parts place ps c.swap_remove.new.self.items c.if-number-last.parts.items) (sym programs_are)
    (subst (λ (gs : List ℕ). IsTaken programs parts place (take last (slice_set programs place moved)) gs c.if-number-last.parts.items) (sym groups_are) taken) in
    record { indexed = found.indexed; without = found.without; plan = λ plan is. plan_fewer parts c.if-number-last.parts.items found.fewer plan is }
