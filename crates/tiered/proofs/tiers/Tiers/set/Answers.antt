use Rattle.std.proofs.Common.{◌≡◌, ◌-◌, ◌/◌, ◌%◌, ◌<◌, [], length, slice_set, refl, sym, ap, ◌∙◌, arith}
use Rattle.std.proofs.lemmas.List.{get_or_default, length-set}
use Rattle.std.specs.Vec.{with_item}
use Rattle.tiered.specs.Blocks.{block_at, all_of, whole}
use Rattle.tiered.proofs.Items.{IsAfter, length-all, set_before, set_after}
use Rattle.tiered.proofs.Keeping.{kept-set}
use Rattle.tiered.proofs.Places.{block_full, place_in, place_inside, same_list}
use Rattle.tiered.proofs.Whole.{set_in}
use Rattle.tiered.proofs.tiers.Tiers.set.Goals as goal

pub invariant_of-self : goal.invariant_of-self
invariant_of-self g c =
    let v = c.self.inside.blocks in
    let i = c.args.place / 2048 in
    let old = c.index_mut.result.now in
    let inside : i < length v.items = omega (arith, v.ok.0) in
    let at : block_at v.items i ≡ old = get_or_default v.items i [] old inside ∙ sym c.index_mut.ensures.value in
    kept-set v (with_item v i c.set.new.self) c.self.inside.last c.self.inside.spare c.self.inside.count c.self.inside.ready i c.set.new.self c.self.invariant refl
    (ap length c.set.ensures ∙ length-set old (c.args.place % 2048) c.args.item ∙ ap length (sym at) ∙ block_full v.items i inside c.self.invariant.tiers.full) refl refl

pub returns-then-block-len : goal.returns-then-block-len
returns-then-block-len g c =
    let v = c.self.inside.blocks in
    let bs = v.items in
    let last = c.self.inside.last.items in
    let n = c.args.place in
    let i = n / 2048 in
    let k = n % 2048 in
    let cs = slice_set bs i c.set.new.self in
    let old = c.index_mut.result.now in
    let full = c.self.invariant.tiers.full in
    let inside : i < length bs = omega (arith, v.ok.0) in
    let long = block_full bs i inside full in
    let shown : all_of bs last ≡ c.args.self.now.items = ap (λ l. l.items) c.self.view_is in
    let at : block_at bs i ≡ old = get_or_default bs i [] old inside ∙ sym c.index_mut.ensures.value in
    let set : whole cs ≡ slice_set (whole bs) n c.args.item =
    ap (λ ys. whole (slice_set bs i ys)) (c.set.ensures ∙ ap (λ ys. slice_set ys k c.args.item) (sym at))
    ∙ set_in bs i k n c.args.item inside (omega arith) (place_in bs n inside full)
    in
    same_list (all_of cs last) (slice_set c.args.self.now.items n c.args.item) c.self.inside.ready c.args.self.now.ready
    (set_before bs cs last n c.args.item (omega arith) (omega (arith, length-set bs i c.set.new.self)) (place_inside bs n inside full) set
    ∙ ap (λ ys. slice_set ys n c.args.item) shown)
    (ap (λ l. l.ready) c.self.view_is)

pub overflow_sub-end : goal.overflow_sub-end
overflow_sub-end g c =
    let bs = c.self.inside.blocks.items in
    let last = c.self.inside.last.items in
    let shown : all_of bs last ≡ c.args.self.now.items = ap (λ l. l.items) c.self.view_is in
    omega (arith, ap length shown, length-all bs last c.self.invariant.tiers.full, c.self.inside.blocks.ok.0, c.self.inside.last.ok.0)

pub overflow_sub-end-else-is_empty : goal.overflow_sub-end-else-is_empty
overflow_sub-end-else-is_empty g c =
    let bs = c.self.inside.blocks.items in
    let last = c.self.inside.last.items in
    let shown : all_of bs last ≡ c.args.self.now.items = ap (λ l. l.items) c.self.view_is in
    omega (arith, ap length shown, length-all bs last c.self.invariant.tiers.full, c.self.invariant.tiers.most, c.self.inside.blocks.ok.0, c.self.inside.last.ok.0)

pub index_mut-requires-else-is_empty : goal.index_mut-requires-else-is_empty
index_mut-requires-else-is_empty g c =
    let bs = c.self.inside.blocks.items in
    let last = c.self.inside.last.items in
    let shown : all_of bs last ≡ c.args.self.now.items = ap (λ l. l.items) c.self.view_is in
    omega (arith, ap length shown, length-all bs last c.self.invariant.tiers.full, c.self.inside.blocks.ok.0, c.self.inside.last.ok.0)

pub returns-else-is_empty : goal.returns-else-is_empty
returns-else-is_empty g c =
    let bs = c.self.inside.blocks.items in
    let last = c.self.inside.last.items in
    let n = c.args.place in
    let m = c.len-end.result - 1 - n % 2048 in
    let some : 0 < length bs = grind (arith, c.self.inside.blocks.ok.0) in
    let shown : all_of bs last ≡ c.args.self.now.items = ap (λ l. l.items) c.self.view_is in
    let count = length-all bs last c.self.invariant.tiers.full in
    let most = c.self.invariant.tiers.most in
    let at : IsAfter bs n = record { some = some; full = c.self.invariant.tiers.full; past = omega (arith, c.self.inside.blocks.ok.0); near = omega (arith, ap length shown) } in
    same_list (all_of bs (slice_set last m c.args.item)) (slice_set c.args.self.now.items n c.args.item) c.self.inside.ready c.args.self.now.ready
    (set_after bs last n m c.args.item at (omega (arith, ap length shown, c.self.inside.blocks.ok.0, c.self.inside.last.ok.0))
    ∙ ap (λ ys. slice_set ys n c.args.item) shown)
    (ap (λ l. l.ready) c.self.view_is)
