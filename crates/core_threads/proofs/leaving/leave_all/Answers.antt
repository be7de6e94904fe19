use Rattle.std.proofs.Common.{◌<◌, length, refl, arith}
use Rattle.std.proofs.lemmas.Option.{slice_get-get_or}
use Rattle.core_threads.proofs.Emptying.{emptying_first, emptying_next, emptying_last, fed_next}
use Rattle.core_threads.proofs.leaving.leave_all.Goals as goal

pub loop-place-init : goal.loop-place-init
loop-place-init c = emptying_first c.args.ran.now c.args.outlets.now c.new-left.result.items c.new-left.ensures.items

pub leave_jobs-requires : goal.leave_jobs-requires
leave_jobs-requires c =
    let was = c.loop-place.invariant in
    let in_outlets : c.loop-place.place < length c.loop-place.outlets = omega arith in
    let in_ran : c.loop-place.place < length c.loop-place.ran = omega (arith, was.same.all, was.long, c.requires.all) in
    (fed_next _ _ _ _ _ _ _ _ c.requires was (slice_get-get_or c.loop-place.ran c.loop-place.place c.index-ran-place.result in_ran) (slice_get-get_or c.loop-place.outlets c.loop-place.place c.index-outlets-place.result in_outlets)).queue

pub loop-place-preserved : goal.loop-place-preserved
loop-place-preserved c =
    let was = c.loop-place.invariant in
    let in_outlets : c.loop-place.place < length c.loop-place.outlets = omega arith in
    let in_ran : c.loop-place.place < length c.loop-place.ran = omega (arith, was.same.all, was.long, c.requires.all) in
    let at_r = slice_get-get_or c.loop-place.ran c.loop-place.place c.index-ran-place.result in_ran in
    let at_o = slice_get-get_or c.loop-place.outlets c.loop-place.place c.index-outlets-place.result in_outlets in
    let fed = fed_next _ _ _ _ _ _ _ _ c.requires was at_r at_o in
    emptying_next _ _ _ _ _ _ _ _ _ _ _ was at_r at_o c.leave_jobs.ensures.core refl fed.number c.in_ok-leave_jobs.ensures.left

pub returns : goal.returns
returns c = emptying_last _ _ _ _ _ _ c.loop-place.invariant (let was = c.loop-place.invariant.long in omega arith)
