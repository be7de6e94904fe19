use Rattle.std.proofs.Common.{sym, ◌∙◌}
use Rattle.rtrb.specs.Ring.{sent}
use Rattle.ump_ring.proofs.Sending.{begins-going}
use Rattle.ump_ring.proofs.sender.Sender.offer_shared.Goals as goal

pub invariant_of-self : goal.invariant_of-self
invariant_of-self c = record {
  sending = begins-going c.args.self.now.message c.args.message c.args.self.now.out c.args.self.now.number (sent c.args.self.now.producer)
      (sym c.is_some.ensures ∙ c.if-is_some.false) (record { least = c.requires.length.0; most = c.requires.length.1; bytes = λ k. rw (sym c.as_slice.ensures) (c.are_bytes.ensures k) }) c.args.self.now.sending;
}
