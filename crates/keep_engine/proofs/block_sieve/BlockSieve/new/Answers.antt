use Rattle.std.proofs.Common.{None, refl}
use Rattle.console.specs.declared.link_types.LinkTypes.TheVariants as LinkTypes
use Rattle.keep_engine.proofs.BlockSieveLemmas.{sifted_none}
use Rattle.keep_engine.proofs.block_sieve.BlockSieve.new.Goals as goal

pub returns : goal.returns
returns c programs wanted = sifted_none programs wanted (record { feed = c.copying.result; fault = None; links = LinkTypes.None }) c.copying.ensures refl
