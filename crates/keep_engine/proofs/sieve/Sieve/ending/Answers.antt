use Rattle.std.proofs.Common.{Some, refl}
use Rattle.keep_engine.proofs.SieveLemmas.{ends_blocks, ends_unknown}
use Rattle.keep_engine.proofs.sieve.Sieve.ending.Goals as goal

pub returns-in-Unknown-clause-keeps : goal.returns-in-Unknown-clause-keeps
returns-in-Unknown-clause-keeps c programs wanted input kept has count = ends_unknown programs wanted input kept c.args.self.now c.in-Unknown.is has

pub returns-in_ok-ending-in-Pcapng-clause-keeps : goal.returns-in_ok-ending-in-Pcapng-clause-keeps
returns-in_ok-ending-in-Pcapng-clause-keeps c programs wanted input kept has count =
    ends_blocks programs wanted input kept c.args.self.now c.in-Pcapng.sieve (Some c.in_ok-ending-in-Pcapng.field-0) _ c.in-Pcapng.is refl (c.in_ok-ending-in-Pcapng.ensures.keeps programs wanted input kept) has
