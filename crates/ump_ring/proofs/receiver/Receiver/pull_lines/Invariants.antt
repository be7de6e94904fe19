use Rattle.std.proofs.Common.{◌≡◌, ◌≤◌, ◌<◌, ◌*◌, ◌+◌, length, None, true, false}
use mathlib.Core.List.{IsPrefix}
use Rattle.ump_ring.specs.Receivers.{lines_received, lines_known, messages_taken, stopped, SameReceiver}
use Rattle.ump_ring.proofs.receiver.Receiver.pull_lines.Given as goal

abbrev pub invariant-loop : goal.invariant-loop
invariant-loop l = record {
  ring : SameReceiver l.initial.self l.self;
  lines : IsPrefix (lines_received l.initial.self) (lines_received l.self);
  known : length (lines_received l.initial.self) + length (lines_known l.initial.self) ≤ length (lines_received l.self) + length (lines_known l.self);
  taken : messages_taken l.self ≡ messages_taken l.initial.self;
  sound : stopped l.self ≡ None;
  none_kept : l.self.kept ≡ false;
  many : 1 ≤ l.counter → (56 * l.counter ≤ length l.self.joiner.bytes.items) × (length l.self.joiner.bytes.items < l.self.joiner.size);
  none_before : l.initial.self.kept ≡ false;
  still : l.self.moved ≡ false → lines_received l.self ≡ lines_received l.initial.self;
  moved : l.self.moved ≡ true → length (lines_received l.initial.self) < length (lines_received l.self);
}
