use Rattle.std.proofs.Common.{◌≡◌, ◌+◌, false, ap, ◌∙◌}
use Rattle.std.specs.BTreeMap.{insert_entry}
use Rattle.std.specs.Ordering.{nat_cmp}
use Rattle.chunked.specs.Chunks.{whole, before}
use Rattle.chunked.specs.Maps.{value_at}
use Rattle.chunked.proofs.Rising.{absent_insert}
use Rattle.chunked.proofs.Mapping.{same_map, place_within, are_firsts_inserted}
use Rattle.chunked.proofs.Values.{value-insert_entry}
use Rattle.chunked.proofs.sorted.Sorted.insert_reserved.Goals as goal

pub invariant_of-self-2 : goal.invariant_of-self-2
invariant_of-self-2 g c =
    let shown : whole c.self.inside.chunks.chunks ≡ c.args.self.now.entries = ap (λ v. v.entries) c.self.view_is in
    let cs = c.self.inside.chunks.chunks in
    let i = c.place_of-spot.result.chunk in
    let off = c.place_of-spot.result.offset in
    let place = c.place_of-spot.ensures in
    are_firsts_inserted c.self.inside.chunks c.insert-parted.new.self c.self.inside.firsts c.follow_insert.new.firsts c.self.inside.count (before cs i + off) c.args.key c.args.value
    c.self.invariant (ap (λ v. v.ready) c.self.view_is ∙ c.requires.ready) (place_within cs i off place.inside place.offset) place.cut
    (ap (λ es. value_at es c.args.key) shown ∙ c.requires.absent) c.insert-parted.ensures.items c.insert-parted.ensures.used c.follow_insert.ensures

pub returns-clause-entries : goal.returns-clause-entries
returns-clause-entries g c =
    let shown : whole c.self.inside.chunks.chunks ≡ c.args.self.now.entries = ap (λ v. v.entries) c.self.view_is in
    let cs = c.self.inside.chunks.chunks in
    let i = c.place_of-spot.result.chunk in
    let off = c.place_of-spot.result.offset in
    let place = c.place_of-spot.ensures in
    same_map (whole c.insert-parted.new.self.chunks) (insert_entry nat_cmp c.args.self.now.entries c.args.key c.args.value) c.insert-parted.new.self.ready false
    (c.insert-parted.ensures.items
    ∙ absent_insert (whole cs) (before cs i + off) c.args.key c.args.value c.self.invariant.rising (place_within cs i off place.inside place.offset) place.cut (ap (λ es. value_at es c.args.key) shown ∙ c.requires.absent)
    ∙ ap (λ es. insert_entry nat_cmp es c.args.key c.args.value) shown)
    c.insert-parted.ensures.used

pub returns-clause-values : goal.returns-clause-values
returns-clause-values g c = λ q.
    let shown : whole c.self.inside.chunks.chunks ≡ c.args.self.now.entries = ap (λ v. v.entries) c.self.view_is in
    let cs = c.self.inside.chunks.chunks in
    let i = c.place_of-spot.result.chunk in
    let off = c.place_of-spot.result.offset in
    let place = c.place_of-spot.ensures in
    ap (λ es. value_at es q) (c.insert-parted.ensures.items
    ∙ absent_insert (whole cs) (before cs i + off) c.args.key c.args.value c.self.invariant.rising (place_within cs i off place.inside place.offset) place.cut (ap (λ es. value_at es c.args.key) shown ∙ c.requires.absent)
    ∙ ap (λ es. insert_entry nat_cmp es c.args.key c.args.value) shown)
    ∙ value-insert_entry c.args.self.now.entries c.args.key q c.args.value
