use Rattle.filter_table.specs.Loading.{load_op}
use Rattle.monitor_2pc.proofs.Ballots.{casts_short}
use Rattle.monitor_2pc.proofs.participant.loaded_vote.Goals as goal

pub returns-in-Ok-clause-casts : goal.returns-in-Ok-clause-casts
returns-in-Ok-clause-casts g c = λ short. casts_short short c.args.replica.now.shown c.args.replica.now.budget (load_op c.args.load (g.C.Code.insns c.args.program)) c.in-Ok.ensures.ok c.in-Ok.ensures.fits
