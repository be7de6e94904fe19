use Rattle.keep_engine.proofs.BlockSieveLemmas.{ends_within}
use Rattle.keep_engine.proofs.block_sieve.BlockSieve.ending.Goals as goal

pub returns-in-Err-clause-keeps : goal.returns-in-Err-clause-keeps
returns-in-Err-clause-keeps c programs wanted input kept has = ends_within programs wanted input kept c.args.self.now c.in-Err.fault has c.in-Err.ensures.ends c.in-Err.ensures.memory
