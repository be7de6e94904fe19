use Rattle.std.proofs.Common.{None}
use Rattle.filter_table.specs.Tables.{after}
use Rattle.monitor_2pc.proofs.Ballots.{told_committed, replica_is}
use Rattle.monitor_2pc.proofs.coordinator.committed_step.Goals as goal

pub returns-in-Ok : goal.returns-in-Ok
returns-in-Ok c =
    let p = c.in-Ok.ensures.ok in (
      p.0,
      p.1,
      told_committed c.args.txn c.args.say c.args.replica.now.shown c.commit.new.self.shown p.0 c.version.result c.in-Ok.made p.2 c.version.ensures p.3,
      replica_is c.commit.new.self c.args.replica.now.budget (after c.args.replica.now.shown p.0) None c.commit.ensures.budget p.2 c.commit.ensures.none_staged,
    )
