use Rattle.std.proofs.Common.{◌≡◌, ◌/◌, length, arith, slice_index}
use Rattle.world_core.proofs.CarriedLines.{front, Front, front_states}
use Rattle.world_core.proofs.lines.first_count.Goals as goal

pub returns : goal.returns
returns c = λ bytes shows.
    let f : Front c.args.lines.now.items = front c.args.lines.now.items c.requires.carries (omega arith) in
    let stated : slice_index c.index.result.now 0 / 4294967296 ≡ length bytes = front_states c.args.lines.now.items f c.index.result.now bytes c.index.ensures shows in
    omega (arith, c.div_ceil.ensures)
