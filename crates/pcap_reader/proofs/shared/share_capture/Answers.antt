use Rattle.std.proofs.Common.{◌≡◌, Err, rules}
use Rattle.pcap_reader.proofs.SharingLemmas.{ends_with}
use Rattle.pcap_reader.proofs.shared.share_capture.Goals as goal

pub returns-in_err-ending-clause-fault : goal.returns-in_err-ending-clause-fault
returns-in_err-ending-clause-fault c =
    let is : c.ending.result ≡ Err c.in_err-ending.field-0.0 = c.in_err-ending.was in
    let held = c.in_ok-share_all.ensures.holds in
    let ends = ends_with c.args.file.now c.share_all.new.feed c.share_all.new.packets.items c.ending.result c.in_err-ending.field-0.0 (c.ending.ensures.whole c.share_all.new.packets.items c.args.file.now held) c.ending.ensures.refused is in
    search rules
