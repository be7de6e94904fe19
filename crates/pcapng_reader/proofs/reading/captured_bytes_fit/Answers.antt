use Rattle.pcapng_reader.proofs.PacketLemmas.{fit_their_blocks}
use Rattle.pcapng_reader.proofs.reading.captured_bytes_fit.Goals as goal

pub returns : goal.returns
returns c = fit_their_blocks
