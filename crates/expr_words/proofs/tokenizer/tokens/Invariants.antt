use Rattle.std.proofs.Common.{◌≤◌, ◌-◌, length}
use Rattle.expr_words.proofs.TokenLemmas.{Onward}
use Rattle.expr_words.proofs.tokenizer.tokens.Given as goal

abbrev pub invariant-tokens : goal.invariant-tokens
invariant-tokens l = record {
  inside : l.place ≤ length l.text;
  few : length l.tokens.items ≤ 8192;
  onward : Onward l.text l.tokens.items l.place;
}

abbrev pub decreases-tokens : goal.decreases-tokens
decreases-tokens l = length l.text - l.place
