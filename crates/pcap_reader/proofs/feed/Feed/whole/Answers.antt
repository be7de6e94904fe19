use Rattle.std.proofs.Common.{arith, rules}
use Rattle.std.specs.Prelude.{None, [], ◌≡◌}
use Rattle.pcap_reader.proofs.FeedLemmas.{none_left, whole_taken}
use Rattle.pcap_reader.proofs.feed.Feed.whole.Goals as goal

pub returns-clause-takes : goal.returns-clause-takes
returns-clause-takes c =
    let found = c.in_ok-seen.ensures in
    let going : c.args.self.now.fault ≡ None = search rules in
    let none : c.args.self.now.part.items ≡ [] = none_left c.args.self.now.part.items _ c.is_empty.result (omega (arith, c.args.self.now.part.ok.0)) c.is_empty.ensures c.if-not-is_empty.false in
    let empty : c.args.self.now.packets.items ≡ [] = none_left c.args.self.now.packets.items _ c.is_empty-else-not-is_empty.result (omega (arith, c.args.self.now.packets.ok.0)) c.is_empty-else-not-is_empty.ensures c.if-not-is_empty-2.false in
    whole_taken c.args.rest.now.now c.in_ok-seen.more.now found.0 c.args.self.now c.in_ok-header.header _ _ c.in_ok-header.was going none empty found.1 found.2 found.3
    (λ fits. omega (arith, c.saturating_add-self.ensures, fits))
