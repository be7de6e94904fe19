use Rattle.std.proofs.Common.{◌≡◌, ◌+◌, filter, nat_le, ap, ◌∙◌, subst}
use Rattle.std.specs.List.Sorted.{IsStrictlyIncreasing}
use Rattle.std.specs.Map.{keys_of}
use Rattle.chunked.specs.Chunks.{whole, before}
use Rattle.chunked.proofs.Rising.{increasing, cut_filter}
use Rattle.chunked.proofs.sorted.Sorted.iter_from.Goals as goal

pub returns-clause-order : goal.returns-clause-order
returns-clause-order g c =
    subst (λ es. IsStrictlyIncreasing (keys_of es)) (ap (λ v. v.entries) c.self.view_is) (increasing (whole c.self.inside.chunks.chunks) c.self.invariant.rising)

pub returns-clause-entries : goal.returns-clause-entries
returns-clause-entries g c =
    let shown : whole c.self.inside.chunks.chunks ≡ c.args.self.now.entries = ap (λ v. v.entries) c.self.view_is in
    let cs = c.self.inside.chunks.chunks in
    let i = c.place_of-spot.result.chunk in
    let off = c.place_of-spot.result.offset in
    c.items_from.ensures ∙ cut_filter (whole cs) (before cs i + off) c.args.key c.place_of-spot.ensures.cut ∙ ap (filter (λ e. nat_le c.args.key e.0)) shown
