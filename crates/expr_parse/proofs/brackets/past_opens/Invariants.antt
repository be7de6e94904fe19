use Rattle.std.proofs.Common.{◌≡◌, ◌≤◌, ◌-◌, length, drop}
use Rattle.expr_parse.specs.Brackets.{past_opens}
use Rattle.expr_parse.proofs.brackets.past_opens.Given as goal

abbrev pub invariant-opens : goal.invariant-opens
invariant-opens l = record { inside : l.at ≤ length l.tokens; same : past_opens (drop l.place l.tokens) ≡ past_opens (drop l.at l.tokens) }

abbrev pub decreases-opens : goal.decreases-opens
decreases-opens l = length l.tokens - l.at
