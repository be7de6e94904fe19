use Rattle.std.proofs.Common.{◌≡◌, ◌++◌}
use Rattle.pcap_reader.proofs.shared.push_shared.Given as goal

abbrev pub invariant-loop-packet : goal.invariant-loop-packet
invariant-loop-packet l = l.packets.items ≡ l.initial.packets.items ++ l.yielded
