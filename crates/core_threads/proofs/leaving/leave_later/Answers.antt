use Rattle.std.proofs.Common.{◌∷◌, [], ◌++◌, refl, sym, ap, ◌∙◌, append_assoc}
use Rattle.core_threads.proofs.Lefts.{leaves_more}
use Rattle.core_threads.proofs.leaving.leave_later.Goals as goal

pub loop-job-preserved : goal.loop-job-preserved
loop-job-preserved c =
    let was = c.loop-job.invariant in
    let gone = was.0 in (
      gone ++ c.in-Some.job ∷ [],
      append_assoc gone (c.in-Some.job ∷ []) _ ∙ ap (λ l. gone ++ l) (sym c.in-Some.ensures.items) ∙ was.1,
      leaves_more _ _ _ _ c.in-Some.job _ _ _ was.2 c.in_ok-push.ensures.items refl,
    )
