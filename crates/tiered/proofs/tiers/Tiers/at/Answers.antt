use Rattle.std.proofs.Common.{◌≡◌, ◌-◌, ◌/◌, ◌%◌, ◌<◌, [], length, slice_get, sym, ap, ◌∙◌, arith}
use Rattle.std.proofs.lemmas.List.{get_or_default}
use Rattle.tiered.specs.Blocks.{block_at, all_of}
use Rattle.tiered.proofs.Items.{IsAfter, all_short, length-all, get_before, get_after}
use Rattle.tiered.proofs.Parts.{get_read}
use Rattle.tiered.proofs.Places.{block_full, place_in, place_inside}
use Rattle.tiered.proofs.Whole.{get_in}
use Rattle.tiered.proofs.tiers.Tiers.at.Goals as goal

pub returns-then-block-len : goal.returns-then-block-len
returns-then-block-len g c =
    let bs = c.self.inside.blocks.items in
    let last = c.self.inside.last.items in
    let n = c.args.place in
    let i = n / 2048 in
    let k = n % 2048 in
    let full = c.self.invariant.tiers.full in
    let inside : i < length bs = omega (arith, c.self.inside.blocks.ok.0) in
    let long = block_full bs i inside full in
    let shown : all_of bs last ≡ c.args.self.now.items = ap (λ l. l.items) c.self.view_is in
    let at : block_at bs i ≡ c.index.result.now = get_or_default bs i [] c.index.result.now inside ∙ sym c.index.ensures in
    ap (λ ys. slice_get ys n) (sym shown)
    ∙ get_before bs last n (omega arith) (place_inside bs n inside full)
    ∙ get_in bs i k n inside (omega arith) (place_in bs n inside full)
    ∙ ap (λ ys. slice_get ys k) at
    ∙ c.at.ensures

pub returns-then-is_empty : goal.returns-then-is_empty
returns-then-is_empty g c =
    let bs = c.self.inside.blocks.items in
    let last = c.self.inside.last.items in
    let none : length bs ≡ 0 = grind (arith, c.self.inside.blocks.ok.0) in
    let shown : all_of bs last ≡ c.args.self.now.items = ap (λ l. l.items) c.self.view_is in
    let short = all_short bs last none in
    ap (λ ys. slice_get ys c.args.place) (sym shown ∙ short)
    ∙ get_read last c.args.place c.index-then-is_empty.result.now (omega (arith, ap length shown, ap length short)) c.index-then-is_empty.ensures

pub overflow_sub-len : goal.overflow_sub-len
overflow_sub-len g c =
    let bs = c.self.inside.blocks.items in
    let last = c.self.inside.last.items in
    let shown : all_of bs last ≡ c.args.self.now.items = ap (λ l. l.items) c.self.view_is in
    omega (arith, ap length shown, length-all bs last c.self.invariant.tiers.full, c.self.inside.blocks.ok.0, c.self.inside.last.ok.0)

pub overflow_sub-len-2 : goal.overflow_sub-len-2
overflow_sub-len-2 g c =
    let bs = c.self.inside.blocks.items in
    let last = c.self.inside.last.items in
    let shown : all_of bs last ≡ c.args.self.now.items = ap (λ l. l.items) c.self.view_is in
    omega (arith, ap length shown, length-all bs last c.self.invariant.tiers.full, c.self.invariant.tiers.most, c.self.inside.blocks.ok.0, c.self.inside.last.ok.0)

pub index-requires-2 : goal.index-requires-2
index-requires-2 g c =
    let bs = c.self.inside.blocks.items in
    let last = c.self.inside.last.items in
    let shown : all_of bs last ≡ c.args.self.now.items = ap (λ l. l.items) c.self.view_is in
    omega (arith, ap length shown, length-all bs last c.self.invariant.tiers.full, c.self.inside.blocks.ok.0, c.self.inside.last.ok.0)

pub returns : goal.returns
returns g c =
    let bs = c.self.inside.blocks.items in
    let last = c.self.inside.last.items in
    let n = c.args.place in
    let some : 0 < length bs = grind (arith, c.self.inside.blocks.ok.0) in
    let shown : all_of bs last ≡ c.args.self.now.items = ap (λ l. l.items) c.self.view_is in
    let count = length-all bs last c.self.invariant.tiers.full in
    let most = c.self.invariant.tiers.most in
    let at : IsAfter bs n = record { some = some; full = c.self.invariant.tiers.full; past = omega (arith, c.self.inside.blocks.ok.0); near = omega (arith, ap length shown) } in
    ap (λ ys. slice_get ys n) (sym shown)
    ∙ get_after bs last n (c.len-2.result - 1 - n % 2048) c.index-2.result.now at (omega (arith, ap length shown, c.self.inside.blocks.ok.0, c.self.inside.last.ok.0)) c.index-2.ensures
