use Rattle.core_loop.proofs.Handing.{handed_bytes}
use Rattle.core_loop.proofs.sending.hand_shared.Goals as goal

pub returns-clause-there : goal.returns-clause-there
returns-clause-there g c = λ stamp m coded. handed_bytes _ _ c.args.bytes c.send_shared.result stamp m c.requires.ready c.send_shared.ensures.sent.1 coded
