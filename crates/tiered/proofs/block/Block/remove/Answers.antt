use Rattle.std.proofs.Common.{◌≡◌, ◌+◌, ◌-◌, ◌%◌, length, slice_get, get_or, sym, ap, ◌∙◌, arith}
use Rattle.std.specs.Vec.{with_items}
use Rattle.std.proofs.lemmas.List.{with_items_is}
use Rattle.tiered.proofs.Rings.{ring_full, removed_upper, removed_lower, get-from_head}
use Rattle.tiered.proofs.block.Block.remove.Goals as goal

pub returns-then-offset-above-clause-items : goal.returns-then-offset-above-clause-items
returns-then-offset-above-clause-items g c =
    let v = c.self.inside.items in
    let head = c.self.inside.head in
    let held = c.deref_mut.result.now in
    let new = c.move_up.new.items in
    let full : length v.items ≡ 2048 = ring_full v head c.args.self.now c.self.invariant c.self.view_is ∙ c.requires.full in
    let write = with_items_is v new (omega (arith, c.move_up.auto.items, c.deref_mut.ensures.len)) in
    let count : length new ≡ 2048 = omega (arith, c.move_up.auto.items, ap length c.deref_mut.ensures.value, full) in
    removed_upper v.items held new (with_items v new).items c.args.self.now head c.args.offset c.args.item full (omega arith) count
    c.deref_mut.ensures.value c.move_up.ensures.items write c.self.view_is

pub returns-clause-item : goal.returns-clause-item
returns-clause-item g c =
    let v = c.self.inside.items in
    let head = c.self.inside.head in
    let out = c.move_down.result in
    let full : length v.items ≡ 2048 = ring_full v head c.args.self.now c.self.invariant c.self.view_is ∙ c.requires.full in
    let round : c.args.offset - (2048 - head) ≡ (head + c.args.offset) % 2048 = omega arith in
    ap (λ ys. slice_get ys c.args.offset) (sym c.self.view_is)
    ∙ get-from_head v head c.args.offset out c.self.invariant (omega arith)
    (c.move_down.ensures.item ∙ ap (λ xs. get_or xs (c.args.offset - (2048 - head)) out) c.deref_mut-2.ensures.value ∙ ap (λ n. get_or v.items n out) round)

pub returns-clause-items : goal.returns-clause-items
returns-clause-items g c =
    let v = c.self.inside.items in
    let head = c.self.inside.head in
    let k = c.args.offset - (2048 - head) in
    let held = c.deref_mut-2.result.now in
    let new = c.move_down.new.items in
    let full : length v.items ≡ 2048 = ring_full v head c.args.self.now c.self.invariant c.self.view_is ∙ c.requires.full in
    let write = with_items_is v new (omega (arith, c.move_down.auto.items, c.deref_mut-2.ensures.len)) in
    removed_lower v.items held new (with_items v new).items c.args.self.now head (head - 1) k c.args.offset c.args.item full (omega arith) (omega arith) (omega arith) (omega arith)
    c.deref_mut-2.ensures.value c.move_down.ensures.items write c.self.view_is
