use Rattle.std.proofs.Common.{true, ◌≡◌, ℕ, ◌+◌, ◌<◌, length}
use Rattle.bpf_insn.specs.Machine.{Packet}
use Rattle.filter_codegen.specs.Graphs.{value}
use Rattle.filter_codegen.specs.Known.{known}
use Rattle.filter_codegen.proofs.shorten.followed.Given as goal

abbrev pub invariant-places : goal.invariant-places
invariant-places l = record {
  inside : l.at < length l.graph + 2;
  same : (packet : Packet) (accept : ℕ) → known packet l.facts l.head ≡ true → value packet accept l.graph l.at ≡ value packet accept l.graph l.fn.place;
}

abbrev pub decreases-places : goal.decreases-places
decreases-places l = l.at
