use Rattle.std.proofs.Common.{arith}
use Rattle.trace_lines.proofs.Linking.{front-set, front-push}
use Rattle.trace_lines.proofs.messages.set_front.Goals as goal

pub returns-then-place-len : goal.returns-then-place-len
returns-then-place-len c =
    let at = rw c.deref.ensures.value at c.place_of_front-place.ensures.place in
    front-set c.args.set c.args.fronts.now.items c.place_of_front-place.result at (omega arith)

pub returns-in_ok-push : goal.returns-in_ok-push
returns-in_ok-push c =
    let at = rw c.deref.ensures.value at c.place_of_front-place.ensures.place in
    rw c.in_ok-push.ensures.items (front-push c.args.set c.args.fronts.now.items c.place_of_front-place.result at (omega arith))
