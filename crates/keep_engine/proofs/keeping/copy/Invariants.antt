use Rattle.std.proofs.Common.{◌≡◌, ◌+◌, ◌*◌, ◌≤◌, [], None, false}
use Rattle.console.specs.Programs.{programs_of}
use Rattle.console.specs.declared.streaming.TheConstants.{STREAM_READS}
use Rattle.keep_engine.specs.declared.keeping.TheConstants.{BLOCK, MANY, SMALL}
use Rattle.keep_engine.proofs.CopyLemmas.{Copied}
use Rattle.keep_engine.proofs.keeping.copy.Given as goal

abbrev pub invariant-loop-turn : goal.invariant-loop-turn
invariant-loop-turn g l = record {
  so : Copied (programs_of l.filter) l.wanted g.R.Read.remaining l.initial.reader l.reader g.W.Write.contents l.initial.writer l.writer l.sieve;
  left : l.reader.left + l._turn ≡ STREAM_READS;
  few : l.reader.taken ≤ MANY + BLOCK + SMALL * l._turn;
  open_end : (l.reader.ended ≡ false) × (l.reader.failed ≡ false);
  good : l.writer.failed ≡ false;
  none : l.kept.bytes.items ≡ [];
  going : l.kept.stop ≡ None;
}
