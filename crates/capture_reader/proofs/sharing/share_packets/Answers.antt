use Rattle.std.proofs.Common.{sym, ◌∙◌}
use Rattle.capture_reader.proofs.SharingLemmas.{pcapng_answer, savefile_answer, savefile_shared}
use Rattle.capture_reader.proofs.sharing.share_packets.Goals as goal

pub returns-in_err-share_blocks-clause-fault : goal.returns-in_err-share_blocks-clause-fault
returns-in_err-share_blocks-clause-fault c = pcapng_answer c.args.file.now c.as_slice.result.now c.from_residual.result c.in_err-share_blocks.field-0.0 c.from_residual.ensures.1 (sym c.is_pcapng.ensures ∙ c.if-is_pcapng.true) c.as_slice.ensures c.in_err-share_blocks.ensures.fault

pub returns-in_err-share_capture-clause-fault : goal.returns-in_err-share_capture-clause-fault
returns-in_err-share_capture-clause-fault c = savefile_answer c.args.file.now c.as_slice.result.now c.from_residual-in_err-share_capture.result c.in_err-share_capture.field-0.0 c.from_residual-in_err-share_capture.ensures.1 (sym c.is_pcapng.ensures ∙ c.if-is_pcapng.false) c.as_slice.ensures c.in_err-share_capture.ensures.fault

pub returns-clause-packets : goal.returns-clause-packets
returns-clause-packets c =
    let has = c.in_ok-share_capture.ensures.packets in
    let told = sym c.is_pcapng.ensures ∙ c.if-is_pcapng.false in
    savefile_shared c.args.file.now has.0 _ (rw c.as_slice.ensures at told) has.1
