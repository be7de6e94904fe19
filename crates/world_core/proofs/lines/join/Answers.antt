use Rattle.std.proofs.Common.{◌≡◌, arith, length, ◌∙◌, sym, None}
use Rattle.monitor_messages.specs.Coding.{coded}
use Rattle.ump_ring.specs.Lines.{line_count}
use Rattle.ump_ring.specs.Reading.{line_fault}
use Rattle.world_core.proofs.CarriedLines.{front, Front, front_count}
use Rattle.world_core.proofs.Joined.{next_sound, joined_next, joined_whole}
use Rattle.world_core.proofs.lines.join.Goals as goal

pub index-requires : goal.index-requires
index-requires c =
    let f : Front c.args.lines.now.items = front c.args.lines.now.items c.requires.carries (omega arith) in
    let count : c.first_count-place-end.result ≡ line_count (length (coded 0 f.m)) = c.first_count-place-end.ensures _ f.first in
    omega (arith, front_count c.args.lines.now.items f)

pub unreachable-requires : goal.unreachable-requires
unreachable-requires c =
    let f : Front c.args.lines.now.items = front c.args.lines.now.items c.requires.carries (omega arith) in
    let count : c.first_count-place-end.result ≡ line_count (length (coded 0 f.m)) = c.first_count-place-end.ensures _ f.first in
    let none : line_fault c.loop-place.joiner.number c.loop-place.joiner.size c.loop-place.joiner.bytes.items c.index.result.now ≡ None =
    next_sound c.loop-place.joiner (coded 0 f.m) c.args.lines.now.items _ c.loop-place.place c.index.result.now f.cut f.carried.sized (omega arith) c.index.ensures c.loop-place.invariant.read in
    let sound = c.in_default.ensures.rule c.loop-place.invariant.read.sound in
    let faulty = c.in_default.ensures.err.0 in
    absurd (cc (none, sound, faulty))

pub loop-place-preserved : goal.loop-place-preserved
loop-place-preserved c =
    let f : Front c.args.lines.now.items = front c.args.lines.now.items c.requires.carries (omega arith) in
    let count : c.first_count-place-end.result ≡ line_count (length (coded 0 f.m)) = c.first_count-place-end.ensures _ f.first in
    let read = c.in-Ok.ensures.read _ c.loop-place.invariant.read in
    joined_next c.line.new.self (coded 0 f.m) c.args.lines.now.items _ c.loop-place.place c.index.result.now f.cut f.carried.sized (omega arith) c.index.ensures read.0 read.1

pub returns : goal.returns
returns c =
    let f : Front c.args.lines.now.items = front c.args.lines.now.items c.requires.carries (omega arith) in
    let count : c.first_count-place-end.result ≡ line_count (length (coded 0 f.m)) = c.first_count-place-end.ensures _ f.first in
    joined_whole c.loop-place.joiner (coded 0 f.m) c.args.lines.now.items _ c.loop-place.place f.cut f.carried.sized (omega arith) c.loop-place.invariant ∙ sym f.first
