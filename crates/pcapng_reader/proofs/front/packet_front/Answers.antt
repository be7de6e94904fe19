use Rattle.std.proofs.Common.{◌∙◌, arith, sym}
use Rattle.pcapng_reader.proofs.SkimLemmas.{front_of_packet}
use Rattle.pcapng_reader.proofs.front.packet_front.Goals as goal

pub returns-in-Ok : goal.returns-in-Ok
returns-in-Ok c =
    front_of_packet c.args.sections c.args.big c.args.interfaces.now c.args.bytes.now c.in-Ok.frame c.packet_in.result (omega (arith, c.if-bytes-lt-FRAME.false)) (sym c.frame_of.ensures.is ∙ c.in-Ok.is) c.packet_in.ensures
