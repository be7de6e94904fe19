use Rattle.std.proofs.Common.{◌<◌, ◌^◌, arith}
use Rattle.filter_listing.proofs.PrintedLemmas.{branch_is}
use Rattle.filter_listing.proofs.image.branch.Goals as goal

pub returns-in-Some : goal.returns-in-Some
returns-in-Some c =
    let low : c.in-Some.target < 2 ^ 32 = omega arith in
    branch_is c.args.word.now c.args.place c.in-Some.target c.passed_over.result c.requires low (rw c.in-Some.is at c.in_ok-target.ensures) c.passed_over.ensures
