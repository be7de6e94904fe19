use Rattle.std.proofs.Common.{rules}
use Rattle.pcap_reader.proofs.SharingLemmas.{shares_none, shares_more, last_of, lies_before}
use Rattle.pcap_reader.proofs.shared.share_whole.Goals as goal

pub loop-seen-init : goal.loop-seen-init
loop-seen-init c = shares_none _ _ _

pub shared-requires : goal.shared-requires
shared-requires c =
    lies_before c.loop-seen.rest.now _ _ _ _ _ (last_of _ c.loop-seen.rest.now _ c.loop-seen.invariant.front c.loop-seen.invariant.parts c.requires) c.in-Some.ensures.takes

pub loop-seen-preserved : goal.loop-seen-preserved
loop-seen-preserved c = shares_more _ _ _ _ _ _ _ _ _ _ c.loop-seen.invariant c.in-Some.ensures.takes (search rules)
