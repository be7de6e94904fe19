use Rattle.std.proofs.Common.{arith}
use Rattle.pcap_reader.proofs.FeedLemmas.{are_bytes}
use Rattle.console.specs.Programs.{programs_of}
use Rattle.console.proofs.capture_run.CaptureRun.run_piece.Goals as goal

pub returns-then-is_some-clause-runs : goal.returns-then-is_some-clause-runs
returns-then-is_some-clause-runs c = c.in_ok-pass.ensures.passes (programs_of c.args.filter.now) _ _

pub returns-then-is_some-clause-bytes : goal.returns-then-is_some-clause-bytes
returns-then-is_some-clause-bytes c = are_bytes _ (λ i. omega (arith, c.type_inv.piece i))
