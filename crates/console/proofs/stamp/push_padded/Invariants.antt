use Rattle.std.proofs.Common.{◌≡◌, ◌≤◌, ◌++◌, ◌-◌, max, replicate, string_bytes}
use Rattle.console.proofs.stamp.push_padded.Given as goal

abbrev pub invariant-loop-zero : goal.invariant-loop-zero
invariant-loop-zero l = record {
  most : l._zero ≤ max l.have l.width;
  zeros : string_bytes l.text ≡ string_bytes l.initial.text ++ replicate (l._zero - l.have) 48;
}
