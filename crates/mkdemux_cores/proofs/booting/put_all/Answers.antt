use Rattle.std.proofs.Common.{◌<◌, ◌++◌, ◌∷◌, [], ◌+◌, Some, length, sym, ◌∙◌, subst, arith}
use Rattle.std.specs.Vec.Iter.{into_iter_items}
use Rattle.std.proofs.lemmas.List.{length-map, get_or-map, map-set, nil_from_length}
use Rattle.mkdemux_cores.specs.Booting.{cores_of}
use Rattle.mkdemux_cores.proofs.Opening.{Putting, place_inside, untouched, put_more, put_last}
use Rattle.mkdemux_cores.proofs.booting.put_all.Goals as goal

pub put-requires : goal.put-requires
put-requires c =
    let i = c.loop-core.place in let d = c.index-cores-place.result in let old = c.args.cores.now in let now = c.loop-core.cores in
    let count = c.requires.count ∙ sym (length-map old (λ h. h.core)) in let next = c.in-Some.ensures.steps.0 in
    let below = place_inside _ _ _ _ _ _ (cores_of old) (cores_of now) i c.loop-core.invariant next count in
    let was_below : i < length old = omega (arith, below, length-map old (λ h. h.core)) in
    sym (get_or-map (λ h. h.core) now i d d.core (omega arith)) ∙ untouched _ _ _ _ _ _ (cores_of old) (cores_of now) i c.loop-core.invariant next d.core ∙ get_or-map (λ h. h.core) old i d d.core was_below
    ∙ c.requires.closed i d was_below

pub loop-core-preserved : goal.loop-core-preserved
loop-core-preserved c =
    let i = c.loop-core.place in let old = c.args.cores.now in let now = c.loop-core.cores in let put = c.put.new.self in
    let count = c.requires.count ∙ sym (length-map old (λ h. h.core)) in let next = c.in-Some.ensures.steps.0 in
    let more = put_more _ _ _ _ _ _ (cores_of old) (cores_of now) i c.loop-core.invariant next count put.core c.put.ensures in
    subst (λ l. Putting (λ b. Some b.value) c.args.booted.items (c.loop-core.yielded ++ c.in-Some.core ∷ []) (into_iter_items c.next.new.self) (cores_of old) l (i + 1)) (sym (map-set (λ h. h.core) now i put)) more

pub returns : goal.returns
returns c =
    let old = c.args.cores.now in
    put_last _ _ _ _ (cores_of old) (cores_of c.loop-core.cores) c.loop-core.place c.loop-core.invariant (nil_from_length _ (sym c.loop-core.core-iterator.rest.ok.0 ∙ c.in-None.ensures.steps.0)) (c.requires.count ∙ sym (length-map old (λ h. h.core)))
