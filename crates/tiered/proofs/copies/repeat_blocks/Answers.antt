use Rattle.std.proofs.Common.{◌≡◌, replicate, ap, ◌∙◌, arith}
use Rattle.tiered.proofs.Places.{repeated_more}
use Rattle.tiered.proofs.copies.repeat_blocks.Goals as goal

pub loop-made-preserved : goal.loop-made-preserved
loop-made-preserved g c =
    repeated_more c.loop-made.blocks.items c.push.new.self.items c.loop-made._made c.new.result (replicate 2048 c.args.item)
    c.in_ok-push.ensures.items (c.new.ensures ∙ c.in_ok-repeat.ensures.items) c.loop-made.invariant

pub returns : goal.returns
returns g c =
    let all : c.loop-made._made ≡ c.args.count = omega arith in
    c.loop-made.invariant ∙ ap (λ n. replicate n (replicate 2048 c.args.item)) all
