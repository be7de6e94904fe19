use Rattle.std.proofs.Common.{◌≡◌, ◌+◌, ◌-◌, ◌%◌, length, refl, ap, ◌∙◌, arith}
use Rattle.std.specs.Vec.{with_items}
use Rattle.std.proofs.lemmas.List.{with_items_is}
use Rattle.tiered.proofs.Rings.{ring_full, inserted_upper, inserted_lower}
use Rattle.tiered.proofs.block.Block.insert.Goals as goal

pub returns-then-offset-above : goal.returns-then-offset-above
returns-then-offset-above g c =
    let v = c.self.inside.items in
    let head = c.self.inside.head in
    let last = (head + 2048 - 1) % 2048 in
    let held = c.deref_mut.result.now in
    let new = c.move_down.new.items in
    let full : length v.items ≡ 2048 = ring_full v head c.args.self.now c.self.invariant c.self.view_is ∙ c.requires.full in
    let write = with_items_is v new (omega (arith, c.move_down.auto.items, c.deref_mut.ensures.len)) in
    inserted_upper v.items held new (with_items v new).items c.args.self.now head last c.args.offset c.move_down.result c.args.item full c.self.invariant.inside refl
    (omega arith) c.deref_mut.ensures.value c.move_down.ensures.item c.move_down.ensures.items write c.self.view_is

pub returns : goal.returns
returns g c =
    let v = c.self.inside.items in
    let head = c.self.inside.head in
    let last = (head + 2048 - 1) % 2048 in
    let k = c.args.offset - (2048 - 1 - last) in
    let held = c.deref_mut-2.result.now in
    let new = c.move_up.new.items in
    let full : length v.items ≡ 2048 = ring_full v head c.args.self.now c.self.invariant c.self.view_is ∙ c.requires.full in
    let write = with_items_is v new (omega (arith, c.move_up.auto.items, c.deref_mut-2.ensures.len)) in
    let count : length new ≡ 2048 = omega (arith, c.move_up.auto.items, ap length c.deref_mut-2.ensures.value, full) in
    inserted_lower v.items held new (with_items v new).items c.args.self.now head last k c.args.offset c.move_up.result c.args.item full c.self.invariant.inside refl
    (omega arith) (omega arith) count c.deref_mut-2.ensures.value c.move_up.ensures.item c.move_up.ensures.items write c.self.view_is
