use Rattle.std.proofs.Common.{List, ◌<◌, ap, arith, get_or, length, refl, slice_get, sym, ◌∙◌}
use Rattle.std.proofs.lemmas.Option.{slice_get-get_or}
use Rattle.filter_group.specs.declared.lockstep.Hit.{Hit}
use Rattle.installed_filters.proofs.InPlace.{next_changed, not_yet}
use Rattle.installed_filters.specs.Numbering.{numbered_hit}
use Rattle.installed_filters.proofs.numbered.give_each.Goals as goal

abbrev no_hit : Hit
no_hit = record { member = 0; verdict = 0 }

pub bounds-numbers-hit : goal.bounds-numbers-hit
bounds-numbers-hit c =
    let hits = c.loop-place.hits in
    let low : c.loop-place.place < length hits = omega arith in
    let long = c.loop-place.auto.hits in
    let at = sym (not_yet (numbered_hit c.args.numbers.now) c.args.hits.now c.loop-place.place (omega arith)) ∙ (ap (λ (hs : List Hit). slice_get hs c.loop-place.place) (sym c.loop-place.invariant) ∙ slice_get-get_or hits c.loop-place.place no_hit low) in
    c.requires c.loop-place.place (get_or hits c.loop-place.place no_hit) at

pub loop-place-preserved : goal.loop-place-preserved
loop-place-preserved c =
    let hit = get_or c.loop-place.hits c.loop-place.place no_hit in
    next_changed (numbered_hit c.args.numbers.now) c.args.hits.now c.loop-place.hits c.loop-place.place (numbered_hit c.args.numbers.now hit) no_hit c.loop-place.invariant (omega arith) refl
