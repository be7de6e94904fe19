use Rattle.std.proofs.Common.{ap, refl}
use Rattle.capture_reader.specs.declared.entry.Entry.TheVariants.{Packet}
use Rattle.capture_reader.proofs.BlockLemmas.{takes_skimmed}
use Rattle.capture_reader.proofs.blocks.next_whole_packet.Goals as goal

pub returns-clause-advances : goal.returns-clause-advances
returns-clause-advances c = takes_skimmed c.args.rest.now.now c.skim.new.rest.now c.args.feed.now c.skim.new.self c.in_ok-skimmed.skimmed _ c.in_ok-skimmed.ensures.skims (ap Packet c.info_of.ensures) refl

pub returns-clause-shorter : goal.returns-clause-shorter
returns-clause-shorter c = λ some. c.in_ok-skimmed.ensures.skims.shorter
