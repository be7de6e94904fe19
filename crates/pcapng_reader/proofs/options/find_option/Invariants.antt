use Rattle.std.proofs.Common.{◌≡◌, length}
use Rattle.pcapng_reader.specs.Options.{option_in}
use Rattle.pcapng_reader.proofs.options.find_option.Given as goal

abbrev pub invariant-loop-rest : goal.invariant-loop-rest
invariant-loop-rest l = option_in (length l.rest) l.big l.code l.rest ≡ option_in (length l.options) l.big l.code l.options

abbrev pub decreases-loop-rest : goal.decreases-loop-rest
decreases-loop-rest l = length l.rest
