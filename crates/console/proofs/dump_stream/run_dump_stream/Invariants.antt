use Rattle.std.proofs.Common.{◌≡◌, ◌+◌, ◌*◌, ◌≤◌, [], false}
use Rattle.console.specs.declared.streaming.TheConstants.{STREAM_READS}
use Rattle.console.proofs.DumpStreamLemmas.{Dumped}
use Rattle.console.proofs.dump_stream.run_dump_stream.Given as goal

abbrev pub invariant-loop-turn : goal.invariant-loop-turn
invariant-loop-turn g l = record {
  so : Dumped l.link l.stamped g.R.Read.remaining l.initial.reader l.reader g.W.Write.contents l.initial.writer l.writer l.feed l.place l._turn;
  left : l.reader.left + l._turn ≡ STREAM_READS;
  few : l.reader.taken ≤ 65536 * l._turn;
  open_end : (l.reader.ended ≡ false) × (l.reader.failed ≡ false);
  good : l.writer.failed ≡ false;
  empty : l.text.items ≡ [];
}
