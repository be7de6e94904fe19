use Rattle.core_steps.proofs.Codable.{prepare_codable}
use Rattle.core_steps.proofs.core0.Core0.start_sends.Goals as goal

pub returns-clause-codable : goal.returns-clause-codable
returns-clause-codable c = prepare_codable c.args.self.now.replica c.args.op.now c.in_ok-prepare.field-0 _ (rw c.in_default.is at c.requires.tried) c.in_ok-prepare.ensures
