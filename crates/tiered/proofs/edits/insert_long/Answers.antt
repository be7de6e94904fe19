use Rattle.std.proofs.Common.{◌≡◌, ◌-◌, ◌%◌, ◌++◌, [], ◌∷◌, IsOk, ap, ◌∙◌, arith}
use Rattle.std.specs.List.{insert}
use Rattle.tiered.specs.Blocks.{all_of}
use Rattle.tiered.proofs.Items.{IsAfter, length-all, carried_out, insert_after}
use Rattle.tiered.proofs.Places.{place_inside}
use Rattle.tiered.proofs.edits.insert_long.Goals as goal

pub overflow_sub-len : goal.overflow_sub-len
overflow_sub-len g c =
    let bs = c.args.blocks.now in
    omega (arith, length-all bs c.args.last.now.items c.requires.tiers.full, c.args.last.now.ok.0)

pub returns-then-place-blocks-clause-items : goal.returns-then-place-blocks-clause-items
returns-then-place-blocks-clause-items g c =
    let bs = c.args.blocks.now in
    let cs = c.insert_carrying-carried.new.blocks in
    let last = c.args.last.now.items in
    let carried = c.insert_carrying-carried.result in
    let inside = place_inside bs c.args.place (omega arith) c.requires.tiers.full in
    let ok : IsOk c.push.result = c.push.ensures.succeeds (omega (arith, c.requires.tiers.wide c.requires.some, c.args.last.now.ok.0)) in
    let new : c.push.new.self.items ≡ last ++ carried ∷ [] = grind arith in
    ap (λ ys. all_of cs ys) new
    ∙ carried_out bs cs last c.args.place c.args.item carried c.requires.some (omega arith) (omega arith) c.insert_carrying-carried.ensures.items

pub returns-else-place-blocks-clause-items : goal.returns-else-place-blocks-clause-items
returns-else-place-blocks-clause-items g c =
    let bs = c.args.blocks.now in
    let last = c.args.last.now.items in
    let n = c.args.place in
    let m = c.len.result - n % 2048 in
    let count = length-all bs last c.requires.tiers.full in
    let ok : IsOk c.insert.result = c.insert.ensures.succeeds (omega (arith, c.requires.tiers.wide c.requires.some, c.args.last.now.ok.0)) in
    let new : c.insert.new.self.items ≡ insert last m c.args.item = grind arith in
    let at : IsAfter bs n = record { some = c.requires.some; full = c.requires.tiers.full; past = omega arith; near = omega arith } in
    ap (λ ys. all_of bs ys) new
    ∙ insert_after bs last n m c.args.item at (omega (arith, c.args.last.now.ok.0))
