use Rattle.std.proofs.Common.{◌≡◌, ◌^◌, drop, vec_len}
use Rattle.mk_script.specs.Drafts.{numbers_below}
use Rattle.line_words.specs.Words.{texts}
use Rattle.mk_script.proofs.NumbersLemmas.{behind}
use Rattle.mk_script.proofs.drafts.budgets.Given as goal

abbrev pub invariant-loop-word : goal.invariant-loop-word
invariant-loop-word l = record {
  numbers : numbers_below (2 ^ 32) (texts l.words) ≡ behind l.budgets.items (numbers_below (2 ^ 32) (texts (drop l.word-index l.words)));
  len : vec_len l.budgets ≡ l.word-index;
}
