use Rattle.core_steps.proofs.Taking.{commit_taken}
use Rattle.core_steps.proofs.other_core.OtherCore.take.Goals as goal

pub returns-in-Commit-default-clause-takes : goal.returns-in-Commit-default-clause-takes
returns-in-Commit-default-clause-takes c = λ short before between considers.
    let e = c.commit.ensures in
    commit_taken short before c.args.message.now c.args.reply.now c.args.self.now (record c.args.self.now { replica = c.commit.new.replica; participant = c.commit.new.self }) c.in-Commit-default.txn c.version.result c.commit.result
    c.in-Commit-default.is-0 considers e.answered e.shown e.budget e.staged e.outstanding e.stranger c.version.ensures
