use Rattle.std.proofs.Common.{◌≡◌, drop}
use Rattle.std.specs.Prelude.{map}
use Rattle.std.specs.List.{find}
use Rattle.std.specs.Str.{bytes_eq}
use Rattle.mk_script.specs.RowViews.{row_of}
use Rattle.mk_script.proofs.rows.find_in.Given as goal

abbrev pub invariant-loop-row : goal.invariant-loop-row
invariant-loop-row l = find (λ r. bytes_eq r.word l.word) (map row_of (drop l.row-index l.rows)) ≡ find (λ r. bytes_eq r.word l.word) (map row_of l.rows)
