use Rattle.std.proofs.Common.{arith, sym, vec_len}
use Rattle.pcap_reader.proofs.FeedLemmas.{none_left}
use Rattle.keep_engine.proofs.RecordSieveLemmas.{ends_long, ends_whole, ends_within}
use Rattle.keep_engine.proofs.record_sieve.RecordSieve.ending.Goals as goal

pub returns-then-self-clause-keeps : goal.returns-then-self-clause-keeps
returns-then-self-clause-keeps c programs wanted input kept has count =
    ends_long programs wanted input c.args.self.now.header c.in-Ok.field-0 _ c.args.self.now.part.items kept c.args.taken c.len.result c.saturating_sub-place.result c.in-Ok.is count
    (omega (arith, c.len.ensures, c.args.self.now.part.ok.0)) c.saturating_sub-place.ensures c.if-self.true has

pub returns-then-is_empty-clause-keeps : goal.returns-then-is_empty-clause-keeps
returns-then-is_empty-clause-keeps c programs wanted input kept has count =
    ends_whole programs wanted input c.args.self.now.header c.in-Ok.field-0 _ c.args.self.now.part.items kept c.in-Ok.is
    (none_left c.args.self.now.part.items (vec_len c.args.self.now.part) c.is_empty.result (omega (arith, c.args.self.now.part.ok.0)) c.is_empty.ensures c.if-is_empty.true) has

pub returns-else-is_empty-clause-keeps : goal.returns-else-is_empty-clause-keeps
returns-else-is_empty-clause-keeps c programs wanted input kept has count =
    ends_within programs wanted input c.args.self.now.header c.in-Ok.field-0 _ c.args.self.now.part.items kept c.args.taken c.len.result (vec_len c.args.self.now.part) c.saturating_sub-place.result c.in-Ok.is count
    (omega (arith, c.len.ensures, c.args.self.now.part.ok.0)) c.saturating_sub-place.ensures c.if-self.false (omega (arith, c.args.self.now.part.ok.0)) (sym c.if-is_empty.ensures) has
