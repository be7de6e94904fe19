use Rattle.std.proofs.Common.{◌∙◌, arith, map}
use Rattle.trace_lines.specs.Views.{drawn}
use Rattle.trace_lines.proofs.Linking.{linked_next, linked_all}
use Rattle.trace_lines.proofs.picture.link_events.Goals as goal

pub loop-row-preserved : goal.loop-row-preserved
loop-row-preserved c =
    let so = c.loop-row.invariant in
    let did = c.in_ok-sender.ensures in
    linked_next c.highest-highest.result c.loop-row.row c.args.lines.now c.loop-row.rows.items c.push.new.self.items c.loop-row.state c.follow.new.state _
    (omega arith) c.in_ok-push.ensures.items so (did.sender so.past so.follows) (did.follows so.past so.counted so.follows)

pub returns : goal.returns
returns c =
    let so = c.loop-row.invariant in
    let all = linked_all c.highest-highest.result c.loop-row.row c.args.lines.now (map drawn c.loop-row.rows.items) c.loop-row.state c.highest-highest.ensures (omega arith) so in
    record {
      highest = c.highest-highest.ensures;
      rows = all.0;
      left = c.in_ok-left.ensures c.highest-highest.result so.past so.follows ∙ all.1;
    }
