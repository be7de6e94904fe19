use Rattle.std.proofs.Common.{arith}
use Rattle.pcap_reader.proofs.FeedLemmas.{are_bytes}
use Rattle.mk_script.proofs.reader.are_bytes.Goals as goal

pub returns : goal.returns
returns c = are_bytes _ (λ i. omega (arith, c.type_inv.bytes i))
