use Rattle.std.proofs.Common.{◌≡◌, drop, map}
use Rattle.expr_words.specs.Names.{look_up}
use Rattle.expr_words.proofs.names.look_up.Given as goal

abbrev pub invariant-loop-row : goal.invariant-loop-row
invariant-loop-row g l = look_up (map (λ r. (r.0.now, r.1)) (drop l.row-index l.rows)) l.text ≡ look_up (map (λ r. (r.0.now, r.1)) l.rows) l.text
