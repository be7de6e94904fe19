use Rattle.std.proofs.Common.{arith}
use Rattle.pcap_reader.proofs.FeedLemmas.{are_bytes}
use Rattle.console.proofs.SourceLemmas.{lines_run, capture_run}
use Rattle.console.specs.Programs.{programs_of}
use Rattle.console.proofs.packet_source.PacketSource.run.Goals as goal

pub returns-in-Lines-clause-runs : goal.returns-in-Lines-clause-runs
returns-in-Lines-clause-runs c = lines_run c.run_piece.result (programs_of c.args.filter.now) c.args.piece.now c.args.self.now c.in-Lines.lines c.run_piece.new.self _ _ _ c.in-Lines.is c.run_piece.ensures.runs

pub returns-in-Capture-clause-runs : goal.returns-in-Capture-clause-runs
returns-in-Capture-clause-runs c =
    capture_run c.run_piece-in-Capture.result (programs_of c.args.filter.now) c.args.piece.now c.args.self.now c.in-Capture.capture c.run_piece-in-Capture.new.self _ _ _ _ c.in-Capture.is c.run_piece-in-Capture.ensures.runs c.run_piece-in-Capture.ensures.stopped c.run_piece-in-Capture.ensures.bytes

pub returns-in-Lines-clause-bytes : goal.returns-in-Lines-clause-bytes
returns-in-Lines-clause-bytes c = are_bytes _ (λ i. omega (arith, c.type_inv.piece i))

pub returns-in-Capture-clause-bytes : goal.returns-in-Capture-clause-bytes
returns-in-Capture-clause-bytes c = c.run_piece-in-Capture.ensures.bytes
