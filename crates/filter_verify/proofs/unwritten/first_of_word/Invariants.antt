use Rattle.filter_verify.specs.Opens.{IsFollowed}
use Rattle.filter_verify.proofs.unwritten.first_of_word.Given as goal

abbrev pub invariant-pass : goal.invariant-pass
invariant-pass g l = IsFollowed (g.C.Code.insns l.code) l.word l.pc l.open
