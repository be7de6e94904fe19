use Rattle.std.proofs.Common.{◌≡◌, ◌-◌, length, take}
use Rattle.monitor_messages.specs.Reading.{insns_at}
use Rattle.monitor_messages.proofs.Loop.{with_front}
use Rattle.monitor_messages.proofs.reading.fill_insns.Given as goal

abbrev pub invariant-loop-place : goal.invariant-loop-place
invariant-loop-place l = record {
  room : length l.code ≡ length l.fn.code;
  read : with_front (take l.place l.code) (insns_at (length l.fn.code - l.place) l.rest) ≡ insns_at (length l.fn.code) l.bytes;
}
