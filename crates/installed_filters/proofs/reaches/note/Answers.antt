use Rattle.std.proofs.Common.{◌∙◌, arith, get_or, subst, ℕ}
use Rattle.std.proofs.Math.ListN.{length-set}
use Rattle.filter_group.specs.declared.lockstep.Hit.{Hit}
use Rattle.filter_table.proofs.Lists.{get_some}
use Rattle.installed_filters.specs.Keeping.{AreNoted}
use Rattle.installed_filters.proofs.Hits.{noted_more}
use Rattle.installed_filters.proofs.reaches.note.Goals as goal

abbrev no_hit : Hit
no_hit = record { member = 0; verdict = 0 }

pub loop-hit-preserved : goal.loop-hit-preserved
loop-hit-preserved c =
    let hit = get_or c.args.hits.now c.loop-hit.hit-index no_hit in
    let at = get_some c.args.hits.now c.loop-hit.hit-index no_hit (omega (arith, c.loop-hit-test.true)) in
    let inside = c.requires.inside c.loop-hit.hit-index hit at in
    let long = c.loop-hit.invariant.long in
    record {
      long = length-set c.loop-hit.verdicts hit.member hit.verdict ∙ c.loop-hit.invariant.long;
      noted = λ before. noted_more c.args.hits.now c.loop-hit.hit-index hit c.loop-hit.verdicts at (omega arith) c.requires.apart (c.loop-hit.invariant.noted before);
    }

pub returns : goal.returns
returns c = λ before.
    let most = c.loop-hit.auto.hit-index-end in
    let past = c.loop-hit-test.false in
    subst (λ (n : ℕ). AreNoted c.args.hits.now n c.loop-hit.verdicts) (omega arith) (c.loop-hit.invariant.noted before)
