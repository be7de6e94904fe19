use Rattle.std.proofs.Common.{arith, refl}
use Rattle.pcap_reader.proofs.FeedLemmas.{to_end}
use Rattle.capture_reader.proofs.RecordLemmas.{takes_whole}
use Rattle.capture_reader.proofs.records.RecordFeed.pass.Goals as goal

pub returns-clause-advances : goal.returns-clause-advances
returns-clause-advances c = takes_whole c.args.rest.now.now c.split_at.result.0.now c.split_at.result.1.now c.args.self.now (record c.args.self.now { offset = c.saturating_add-self.result }) c.args.header c.args.length c.info_of.result _ c.requires.between.0 c.requires.between.1 c.requires.between.2
    c.requires.whole c.split_at.ensures.front c.split_at.ensures.back c.info_of.ensures refl (to_end 16 c.split_at.result.0.now) c.requires.between.0 c.requires.between.1 c.requires.between.2
    (λ fits. omega (arith, c.saturating_add-self.ensures, fits))
