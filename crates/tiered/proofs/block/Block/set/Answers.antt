use Rattle.std.proofs.Common.{slice_set, ap, ◌∙◌, arith}
use Rattle.tiered.proofs.Rings.{ring_full, set-from_head}
use Rattle.tiered.proofs.block.Block.set.Goals as goal

pub returns : goal.returns
returns g c =
    let v = c.self.inside.items in
    let head = c.self.inside.head in
    let count = ring_full v head c.args.self.now c.self.invariant c.self.view_is in
    set-from_head v head c.args.offset c.args.item c.self.invariant (omega arith)
    ∙ ap (λ ys. slice_set ys c.args.offset c.args.item) c.self.view_is
