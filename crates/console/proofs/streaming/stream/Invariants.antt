use Rattle.std.proofs.Common.{◌≡◌, ◌+◌, ◌*◌, ◌≤◌, [], false, string_bytes}
use Rattle.console.specs.declared.streaming.TheConstants.{STREAM_READS}
use Rattle.console.specs.Streaming.{form_of}
use Rattle.console.proofs.StreamingLemmas.{Streamed}
use Rattle.console.specs.Programs.{programs_of}
use Rattle.console.proofs.streaming.stream.Given as goal

abbrev pub invariant-loop-turn : goal.invariant-loop-turn
invariant-loop-turn g l = record {
  so : Streamed l.fn.view (programs_of l.filter) (form_of l.initial.source) g.R.Read.remaining l.initial.reader l.reader g.W.Write.contents l.initial.writer l.writer l.source l.tally l._turn;
  left : l.reader.left + l._turn ≡ STREAM_READS;
  few : l.reader.taken ≤ 65536 * l._turn;
  open_end : (l.reader.ended ≡ false) × (l.reader.failed ≡ false);
  good : l.writer.failed ≡ false;
  none : l.outcomes.items ≡ [];
  no_times : l.stamps.items ≡ [];
  empty : string_bytes l.tally.text ≡ [];
}
