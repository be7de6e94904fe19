use Rattle.std.proofs.Common.{arith, ap}
use Rattle.std.proofs.lemmas.Grind.{common_steps}
use Rattle.rtrb.specs.Ring.{sent}
use Rattle.ump_ring.specs.Pieces.{bytes_of, going}
use Rattle.ump_ring.proofs.Sending.{pushed-whole, pushed-more, sending-along}
use Rattle.ump_ring.proofs.sender.Sender.push_some.Goals as goal

pub invariant_of-self-then-whole : goal.invariant_of-self-then-whole
invariant_of-self-then-whole c = record {
  sending = (pushed-whole (going c.args.self.now.message) (bytes_of c.in-Some.message) c.args.self.now.out c.push_lines-lines.result c.args.self.now.number (sent c.args.self.now.producer) (sent c.push_lines-lines.new.producer) c.as_slice-bytes.result.now
      (ap going c.in-Some.is) c.as_slice-bytes.ensures c.args.self.now.sending c.push_lines-lines.ensures.lines c.push_lines-lines.ensures.pushed (grind (arith, common_steps))).0;
}

pub returns-then-whole-clause-offered : goal.returns-then-whole-clause-offered
returns-then-whole-clause-offered c = (pushed-whole (going c.args.self.now.message) (bytes_of c.in-Some.message) c.args.self.now.out c.push_lines-lines.result c.args.self.now.number (sent c.args.self.now.producer) (sent c.push_lines-lines.new.producer) c.as_slice-bytes.result.now
    (ap going c.in-Some.is) c.as_slice-bytes.ensures c.args.self.now.sending c.push_lines-lines.ensures.lines c.push_lines-lines.ensures.pushed (grind (arith, common_steps))).1

pub returns-else-whole-clause-lines : goal.returns-else-whole-clause-lines
returns-else-whole-clause-lines c =
    let (sending, same) = pushed-more (going c.args.self.now.message) (bytes_of c.in-Some.message) c.args.self.now.out c.push_lines-lines.result c.args.self.now.number (sent c.args.self.now.producer) (sent c.push_lines-lines.new.producer) c.as_slice-bytes.result.now
    (ap going c.in-Some.is) c.as_slice-bytes.ensures c.args.self.now.sending c.push_lines-lines.ensures.lines c.push_lines-lines.ensures.pushed (grind (arith, common_steps)) in
    let (rest, along, all) = sending-along _ _ _ _ sending in
    (rest, along)
