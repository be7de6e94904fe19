use Rattle.core_loop.proofs.Handing.{handed}
use Rattle.core_loop.proofs.sending.hand.Goals as goal

pub returns-clause-there : goal.returns-clause-there
returns-clause-there g c = λ stamp m coded. handed _ _ c.args.piece c.send.result stamp m c.requires.ready c.send.ensures.sent.1 coded
