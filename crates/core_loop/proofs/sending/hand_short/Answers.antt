use Rattle.core_loop.proofs.Handing.{handed_bytes}
use Rattle.core_loop.proofs.sending.hand_short.Goals as goal

pub returns-clause-there : goal.returns-clause-there
returns-clause-there g c = λ stamp m coded. handed_bytes _ _ c.args.bytes.now c.send_short.result stamp m c.requires.ready c.send_short.ensures.sent.1 coded
