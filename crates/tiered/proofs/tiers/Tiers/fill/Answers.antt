use Rattle.std.proofs.Common.{◌≡◌, ◌-◌, ◌*◌, ◌/◌, length, replicate, ap, ◌∙◌, arith}
use Rattle.std.proofs.lemmas.List.{length-replicate}
use Rattle.tiered.proofs.Items.{filled}
use Rattle.tiered.proofs.Places.{full-replicate}
use Rattle.tiered.proofs.tiers.Tiers.fill.Goals as goal
use Rattle.tiered.proofs.tiers.Tiers.fill.Goals.{then-full-eq0, else-full-eq0}

pub returns : goal.returns
returns g c =
    let full = c.saturating_sub-full.result / 2048 in
    filled c.in_ok-blocks.blocks.items c.in_ok-last.last.items full (c.args.count - full * 2048) c.args.count c.args.item
    c.in_ok-blocks.ensures c.in_ok-last.ensures.items (omega (arith, c.saturating_sub-full.ensures))

pub invariant_of-self : goal.invariant_of-self
invariant_of-self g c =
    let full = c.saturating_sub-full.result / 2048 in
    let rest = c.args.count - full * 2048 in
    let is = filled c.in_ok-blocks.blocks.items c.in_ok-last.last.items full rest c.args.count c.args.item
    c.in_ok-blocks.ensures c.in_ok-last.ensures.items (omega (arith, c.saturating_sub-full.ensures))
    in
    let few : length c.in_ok-blocks.blocks.items ≡ full = ap length c.in_ok-blocks.ensures ∙ length-replicate full (replicate 2048 c.args.item) in
    let more : length c.in_ok-last.last.items ≡ rest = ap length c.in_ok-last.ensures.items ∙ length-replicate rest c.args.item in
    record {
      tiers = record {
        full = full-replicate c.in_ok-blocks.blocks.items full c.args.item c.in_ok-blocks.ensures;
        most = omega (arith, c.saturating_sub-full.ensures);
        wide = λ some. elim c.if-full-eq0.branch [ then-full-eq0 w ↦ omega arith | else-full-eq0 w ↦ omega (arith, w.room-is, c.in_ok-last.ensures.room) ];
      };
      single = λ one. omega (arith, c.saturating_sub-full.ensures);
      count = omega (arith, ap length is, length-replicate c.args.count c.args.item);
      few = omega arith;
      empty = c.self.invariant.empty;
      room = λ ready. cc;
      more = λ ready. cc;
    }
