use Rattle.std.proofs.Common.{◌<◌, length, arith}
use Rattle.std.proofs.lemmas.Option.{slice_get-get_or}
use Rattle.core_threads.proofs.Outlets.{outlets_itself, outlets_set}
use Rattle.core_threads.proofs.feeding.put_some.Goals as goal

pub loop-core-init : goal.loop-core-init
loop-core-init c = outlets_itself _

pub loop-core-preserved : goal.loop-core-preserved
loop-core-preserved c =
    let below : c.loop-core.core < length c.loop-core.outlets = omega arith in
    outlets_set _ _ _ _ _ c.loop-core.invariant (slice_get-get_or c.loop-core.outlets c.loop-core.core c.index-outlets-core.result below) c.put_for.ensures
