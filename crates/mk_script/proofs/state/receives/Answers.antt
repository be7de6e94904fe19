use Rattle.std.proofs.Common.{◌+◌, [], ◌∷◌, ap, refl}
use Rattle.mk_script.specs.DraftViews.{jobs_of}
use Rattle.mk_script.proofs.ChangeLemmas.{knows_receives}
use Rattle.mk_script.proofs.state.receives.Goals as goal

pub returns : goal.returns
returns c =
    let r = c.args.reading.now in
    let counted = ap (jobs_of r.received) c.requires in
    λ given knows. rw c.requires (knows_receives _ _ _ _ _ _ _ _ _ given knows (c.args.event ∷ []) r.received (r.received + 1) c.push.new.self.items counted refl c.in_ok-push.ensures.items)
