use Rattle.std.proofs.Common.{◌-◌, ◌%◌, ap, ◌∙◌, arith}
use Rattle.tiered.specs.Blocks.{all_of}
use Rattle.tiered.proofs.Items.{IsAfter, length-all, carried_in, get_before, remove_after, get_after}
use Rattle.tiered.proofs.Places.{place_inside}
use Rattle.tiered.proofs.edits.remove_long.Goals as goal

pub returns-then-place-blocks-clause-item : goal.returns-then-place-blocks-clause-item
returns-then-place-blocks-clause-item g c =
    let bs = c.args.blocks.now in
    get_before bs c.args.last.now.items c.args.place c.requires.some (place_inside bs c.args.place (omega arith) c.requires.tiers.full)
    ∙ c.remove_carrying.ensures.item

pub returns-then-place-blocks-clause-items : goal.returns-then-place-blocks-clause-items
returns-then-place-blocks-clause-items g c =
    let bs = c.args.blocks.now in
    carried_in bs c.remove_carrying.new.blocks c.args.last.now.items c.pop.new.self.items c.args.place c.in-Some.carried c.requires.some (omega arith)
    (place_inside bs c.args.place (omega arith) c.requires.tiers.full) c.in-Some.ensures.items c.remove_carrying.ensures.items

pub overflow_sub-len-2 : goal.overflow_sub-len-2
overflow_sub-len-2 g c =
    let bs = c.args.blocks.now in
    omega (arith, length-all bs c.args.last.now.items c.requires.tiers.full, c.args.last.now.ok.0)

pub returns-clause-item : goal.returns-clause-item
returns-clause-item g c =
    let bs = c.args.blocks.now in
    let last = c.args.last.now.items in
    let n = c.args.place in
    let count = length-all bs last c.requires.tiers.full in
    let at : IsAfter bs n = record { some = c.requires.some; full = c.requires.tiers.full; past = omega arith; near = omega arith } in
    get_after bs last n (c.len.result - 1 - n % 2048) c.remove.result at (omega (arith, c.args.last.now.ok.0)) c.remove.ensures.value

pub returns-clause-items : goal.returns-clause-items
returns-clause-items g c =
    let bs = c.args.blocks.now in
    let last = c.args.last.now.items in
    let n = c.args.place in
    let count = length-all bs last c.requires.tiers.full in
    let at : IsAfter bs n = record { some = c.requires.some; full = c.requires.tiers.full; past = omega arith; near = omega arith } in
    ap (λ ys. all_of bs ys) c.remove.ensures.items
    ∙ remove_after bs last n (c.len.result - 1 - n % 2048) c.remove.result at (omega (arith, c.args.last.now.ok.0)) c.remove.ensures.value
