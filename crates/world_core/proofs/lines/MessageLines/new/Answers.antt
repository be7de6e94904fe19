use Rattle.world_core.proofs.CarriedLines.{new_lines}
use Rattle.world_core.proofs.lines.MessageLines.new.Goals as goal

pub invariant_of-result : goal.invariant_of-result
invariant_of-result c =
    (new_lines c.args.message.now c.in_ok-bytes.bytes.items c.in_ok-lines.lines.items c.in_ok-bytes.ensures.bytes (c.in_ok-bytes.ensures.coded c.requires.numbered) c.in_ok-bytes.ensures.length
    c.deref.result.now c.deref.ensures.value c.cut.ensures.bytes c.in_ok-lines.ensures.lines).0

pub returns : goal.returns
returns c =
    (new_lines c.args.message.now c.in_ok-bytes.bytes.items c.in_ok-lines.lines.items c.in_ok-bytes.ensures.bytes (c.in_ok-bytes.ensures.coded c.requires.numbered) c.in_ok-bytes.ensures.length
    c.deref.result.now c.deref.ensures.value c.cut.ensures.bytes c.in_ok-lines.ensures.lines).1
