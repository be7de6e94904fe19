use Rattle.std.proofs.Common.{◌≡◌, arith, length}
use Rattle.monitor_messages.specs.Coding.{coded}
use Rattle.ump_ring.specs.Lines.{line_count}
use Rattle.world_core.proofs.CarriedLines.{front, Front, some_lines, drop_lines, dropped_more}
use Rattle.world_core.proofs.lines.drop_first_in.Goals as goal

pub loop-preserved : goal.loop-preserved
loop-preserved c = dropped_more c.args.lines.now.items c.loop.lines.items c.pop_front.new.self.items c.loop.counter c.loop.invariant c.pop_front.ensures.rest

pub returns-clause-carries : goal.returns-clause-carries
returns-clause-carries c =
    let some = some_lines _ _ c.is_empty.ensures c.if-is_empty.false in
    let f : Front c.args.lines.now.items = front c.args.lines.now.items c.requires (omega arith) in
    let count : c.first_count-end.result ≡ line_count (length (coded 0 f.m)) = c.first_count-end.ensures _ f.first in
    (drop_lines c.args.lines.now.items c.loop.lines.items f c.loop.counter c.loop.invariant (omega arith)).0

pub returns-clause-rest : goal.returns-clause-rest
returns-clause-rest c =
    let some = some_lines _ _ c.is_empty.ensures c.if-is_empty.false in
    let f : Front c.args.lines.now.items = front c.args.lines.now.items c.requires (omega arith) in
    let count : c.first_count-end.result ≡ line_count (length (coded 0 f.m)) = c.first_count-end.ensures _ f.first in
    (drop_lines c.args.lines.now.items c.loop.lines.items f c.loop.counter c.loop.invariant (omega arith)).1
