use Rattle.std.proofs.Common.{arith}
use Rattle.table_replica.proofs.Places.{place_below}
use Rattle.table_replica.proofs.contents.accepts.Goals as goal

pub overflow_cast-result : goal.overflow_cast-result
overflow_cast-result g c =
    let breach = c.in-Err.ensures.breach in
    let below = place_below (g.C.Code.insns c.args.code) breach.0 breach.1 in
    let place = breach.3 in
    omega arith
