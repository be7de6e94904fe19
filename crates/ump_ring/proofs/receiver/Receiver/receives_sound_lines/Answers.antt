use Rattle.std.proofs.Common.{Option, subst}
use Rattle.rtrb.specs.Ring.{received}
use Rattle.ump_ring.specs.declared.fault.LineFault.{LineFault}
use Rattle.ump_ring.specs.Reading.{HasRead, sound_lines}
use Rattle.ump_ring.proofs.receiver.Receiver.receives_sound_lines.Goals as goal

pub returns : goal.returns
returns c = λ none.
    let r = c.args.self.now in
    let j = r.joiner in
    (j.number, j.size, j.bytes.items, subst (λ (f : Option LineFault). HasRead j.number j.size j.bytes.items (sound_lines f (received r.consumer))) none r.receiving.read)
