use Rattle.std.proofs.Common.{◌≡◌, ◌∙◌, ◌++◌, ◌∷◌, length, sym, ap, arith, length-append}
use Rattle.std.specs.Vec.Iter.{into_iter_items}
use Rattle.std.proofs.lemmas.List.{length-map}
use Rattle.mkdemux_cores.proofs.booting.boxed.Goals as goal

pub push_reserved-requires : goal.push_reserved-requires
push_reserved-requires c =
    let was = c.loop-core.invariant in
    let boxes = c.loop-core.boxes in
    let rest = into_iter_items c.next.new.self in
    let long : length boxes.items ≡ length c.loop-core.yielded = sym (length-map boxes.items (λ b. b.value)) ∙ ap length was.boxes in
    let split : length c.args.cores.items ≡ length (c.loop-core.yielded ++ c.in-Some.core ∷ rest) = ap length was.split ∙ ap (λ l. length (c.loop-core.yielded ++ l)) c.in-Some.ensures.steps.0 in
    omega (arith, long, split, length-append c.loop-core.yielded (c.in-Some.core ∷ rest), was.room)
