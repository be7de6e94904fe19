use Rattle.filter_verify.specs.Opens.{IsLeastOfWords}
use Rattle.filter_verify.proofs.unwritten.least_open_load.Given as goal

abbrev pub invariant-words : goal.invariant-words
invariant-words g l = IsLeastOfWords (g.C.Code.insns l.code) l.word l.end
