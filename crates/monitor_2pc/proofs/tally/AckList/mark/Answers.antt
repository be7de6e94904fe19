use Rattle.std.proofs.Common.{◌≡◌, ◌+◌, Some, true, false, not, slice_get, slice_set, refl, ap, ◌∙◌, arith}
use Rattle.std.specs.Prelude.{count_by}
use Rattle.std.proofs.lemmas.Bool.Decides.{nat_tests}
use Rattle.std.proofs.lemmas.Option.{slice_get_read}
use Rattle.monitor_2pc.proofs.Counts.{all_marked, counts_less}
use Rattle.monitor_2pc.proofs.tally.AckList.mark.Goals as goal

pub returns-clause-all : goal.returns-clause-all
returns-clause-all c =
    let xs = c.self.inside.acks.items in
    let here : slice_get xs c.args.entry ≡ Some false = slice_get_read xs c.len.result c.args.entry c.index.result.now (omega (arith, c.len.ensures)) c.if-entry-len.false c.index.ensures ∙ ap Some c.if-index.false in
    let less : count_by not (slice_set xs c.args.entry true) + 1 ≡ count_by not xs = counts_less not xs c.args.entry false true here refl refl in
    let all = all_marked (slice_set xs c.args.entry true) in
    let is = c.self.invariant in
    grind (arith, nat_tests, less, is, all)
