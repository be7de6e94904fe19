use Rattle.std.proofs.Common.{◌≡◌, ◌<◌, ◌≤◌, ◌^◌, length}
use Rattle.std.specs.Prelude.{option_and_then}
use Rattle.expr_words.specs.Address.{parts, all_octets}
use Rattle.expr_words.specs.AddressViews.{sum_after}
use Rattle.expr_words.proofs.address.read_octets.Given as goal

abbrev pub invariant-parts : goal.invariant-parts
invariant-parts l = record {
  inside : length l.rest ≤ length l.text;
  few : l.count ≤ 6;
  small : l.value < 256 ^ l.count;
  onward : option_and_then (sum_after l.count l.value) (all_octets l.base (parts l.separator l.rest)) ≡ option_and_then (sum_after 0 0) (all_octets l.base (parts l.separator l.text));
}

abbrev pub decreases-parts : goal.decreases-parts
decreases-parts l = length l.rest
