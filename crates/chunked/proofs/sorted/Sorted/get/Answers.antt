use Rattle.std.proofs.Common.{◌≡◌, ◌+◌, Some, length, slice_get, refl, ap, sym, ◌∙◌, arith}
use Rattle.std.proofs.lemmas.Option.{slice_get_read}
use Rattle.chunked.specs.Chunks.{whole, before}
use Rattle.chunked.specs.Maps.{value_at}
use Rattle.chunked.proofs.Rising.{found_value}
use Rattle.chunked.proofs.Whole.{get_in}
use Rattle.chunked.proofs.sorted.Sorted.get.Goals as goal

pub returns : goal.returns
returns g c =
    let shown : whole c.self.inside.chunks.chunks ≡ c.args.self.now.entries = ap (λ v. v.entries) c.self.view_is in
    let cs = c.self.inside.chunks.chunks in
    let i = c.in_ok-spot.spot.chunk in
    let off = c.in_ok-spot.spot.offset in
    let found = c.in_ok-spot.ensures.found in
    let items = c.chunk.result.now in
    let long = ap length c.chunk.ensures.items in
    let inside = found.inside in
    let at : slice_get items off ≡ Some c.index-chunk-spot.result = slice_get_read items (length items) off c.index-chunk-spot.result refl (omega arith) c.index-chunk-spot.is in
    let here = ap (λ xs. slice_get xs off) (sym c.chunk.ensures.items) ∙ at in
    ap (λ e. Some e.1) (sym c.index-chunk-spot.is) ∙ sym (ap (λ es. value_at es c.args.key) (sym shown)
    ∙ found_value (whole cs) (before cs i + off) c.args.key c.index-chunk-spot.result found.place.cut (get_in cs i off c.index-chunk-spot.result found.place.inside here) (found.entry c.index-chunk-spot.result here))
