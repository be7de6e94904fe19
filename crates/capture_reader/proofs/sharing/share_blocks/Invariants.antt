use Rattle.std.proofs.Common.{length}
use Rattle.capture_reader.specs.Sharing.{HasShared}
use Rattle.capture_reader.proofs.sharing.share_blocks.Given as goal

abbrev pub invariant-loop-rest : goal.invariant-loop-rest
invariant-loop-rest l = HasShared l.file l.rest l.feed l.packets.items

abbrev pub decreases-loop-rest : goal.decreases-loop-rest
decreases-loop-rest l = length l.rest
