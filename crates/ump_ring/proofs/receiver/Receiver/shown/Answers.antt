use Rattle.rtrb.specs.Ring.{received}
use Rattle.ump_ring.proofs.Receiving.{taken-kept}
use Rattle.ump_ring.proofs.receiver.Receiver.shown.Goals as goal

pub returns-then-self-clause-all : goal.returns-then-self-clause-all
returns-then-self-clause-all c = λ e. taken-kept c.args.self.now.joiner (received c.args.self.now.consumer) c.args.self.now.kept c.args.self.now.receiving c.args.self.now.keeps e
