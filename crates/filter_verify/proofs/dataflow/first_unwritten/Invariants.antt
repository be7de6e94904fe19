use Rattle.filter_verify.specs.Flows.{IsSettled}
use Rattle.filter_verify.proofs.dataflow.first_unwritten.Given as goal

abbrev pub invariant-pass : goal.invariant-pass
invariant-pass l = IsSettled l.code l.pc l.written
