use Rattle.std.proofs.Common.{◌≡◌, ◌+◌, Some, length, slice_get, refl, sym, ap, ◌∙◌, arith}
use Rattle.std.proofs.lemmas.Option.{slice_get_read}
use Rattle.chunked.specs.Chunks.{whole, before}
use Rattle.chunked.proofs.Whole.{get_in}
use Rattle.chunked.proofs.Rising.{absent_value}
use Rattle.chunked.proofs.keys.find.Goals as goal
use Rattle.chunked.proofs.keys.find.Goals.{else-spot-chunk-via-then-spot-chunk+else-chunk-spot, else-spot-chunk-via-else-spot-chunk}

pub returns-else-spot-chunk-clause-none : goal.returns-else-spot-chunk-clause-none
returns-else-spot-chunk-clause-none g c =
    let cs = c.args.chunks.now.chunks in
    let i = c.place_of-spot.result.chunk in
    let off = c.place_of-spot.result.offset in
    let place = c.place_of-spot.ensures in
    let items = c.chunk-chunk.result.now in
    let long = ap length c.chunk-chunk.ensures.items in
    elim c.else-spot-chunk.branch [
      | else-spot-chunk-via-then-spot-chunk+else-chunk-spot w ↦
          let at : slice_get items off ≡ Some w.index-chunk-spot.result = slice_get_read items (length items) off w.index-chunk-spot.result refl (omega arith) w.index-chunk-spot.is in
          let there = get_in cs i off w.index-chunk-spot.result place.inside (ap (λ xs. slice_get xs off) (sym c.chunk-chunk.ensures.items) ∙ at) in
          absent_value (whole cs) (before cs i + off) c.args.key c.requires.rising place.cut (λ e found same.
          let entry : e ≡ w.index-chunk-spot.result = cc in
          w.if-chunk-spot.false (ap (λ x. x.0) (sym w.index-chunk-spot.is) ∙ sym (ap (λ x. x.0) entry) ∙ same))
      | else-spot-chunk-via-else-spot-chunk w ↦ place.past (omega (arith, place.offset))
    ]
